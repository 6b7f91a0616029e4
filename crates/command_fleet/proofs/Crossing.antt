-- That what a thread answers may go to another one, part by part: the check's own search doesn't reach so far at once.
use denote.Param.Send.{IsSend, sendable}
use Rattle.std.proofs.Crossing.{crosses}
use Rattle.message_values.proofs.Sending.{report_send}
use Rattle.std.specs.contracts.result.Result as result
use Rattle.plain_values.specs.contracts.memory.NoMemory as no_memory
use Rattle.command_fleet.specs.contracts.decoding.Decoded as decoded

pub decoded_send : IsSend decoded.the_row
decoded_send = search (report_send, sendable, crosses) depth 30 fits 100000

pub result_send : IsSend (result.the_row decoded.the_row no_memory.the_row)
result_send = search (decoded_send, sendable, crosses) depth 30 fits 100000
