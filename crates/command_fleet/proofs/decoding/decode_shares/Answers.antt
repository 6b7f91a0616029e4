use denote.Param.Send.{arg_send, param_send}
use Rattle.command_fleet.proofs.Crossing.{result_send}
use Rattle.command_fleet.proofs.decoding.decode_shares.Goals as goal

pub map_vec-requires-send-X : goal.map_vec-requires-send-X
map_vec-requires-send-X g c κs within = search (result_send, param_send, arg_send) depth 20
