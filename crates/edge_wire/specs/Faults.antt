-- Why an address can't be listened to.
use Rattle.std.specs.declared.io.ErrorKind.{ErrorKind}
use Rattle.std.specs.declared.io.ErrorKind.TheVariants.{AddrInUse, AddrNotAvailable, PermissionDenied}
use Rattle.edge_devices.specs.declared.wires.WireFault.{WireFault}
use Rattle.edge_devices.specs.declared.wires.WireFault.TheVariants as fault

-- what a failure of this kind means
abbrev pub fault_by : ErrorKind → WireFault
fault_by AddrInUse = fault.InUse
fault_by AddrNotAvailable = fault.NotHere
fault_by PermissionDenied = fault.NotPermitted
fault_by _ = fault.Failed
