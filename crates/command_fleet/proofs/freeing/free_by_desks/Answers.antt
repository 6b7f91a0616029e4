use denote.Param.Send.{arg_send, param_send}
use Rattle.message_values.proofs.Sending.{report_send}
use Rattle.command_fleet.proofs.freeing.free_by_desks.Goals as goal

pub for_each_mut-requires-send-T : goal.for_each_mut-requires-send-T
for_each_mut-requires-send-T g c κs within = search (report_send, param_send, arg_send) depth 20
