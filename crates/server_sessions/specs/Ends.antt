-- Why serving ends.
use Rattle.edge_devices.specs.declared.wires.WireFail.{WireFail}
use Rattle.edge_devices.specs.declared.wires.WireFail.TheVariants as fail
use Rattle.server_sessions.specs.declared.serving.ServeEnd.{ServeEnd}
use Rattle.server_sessions.specs.declared.serving.ServeEnd.TheVariants as end

-- what a wire that gave no event makes of serving
abbrev pub end_of : WireFail → ServeEnd
end_of fail.Fault = end.WireFault
end_of fail.NoMemory = end.NoMemory
