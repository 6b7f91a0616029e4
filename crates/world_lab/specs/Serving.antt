-- What is written where a server acts, by what it replies and holds.
use Rattle.std.specs.Prelude.{Bool, ◌&&◌, if◌then◌else◌}
use Rattle.message_values.specs.declared.reply.ServerToAgent.{ServerToAgent}
use Rattle.message_values.specs.declared.profile.TheConstants.{REPORT_FULL_STATE}
use Rattle.message_deltas.specs.Obligations.{has_bit}
use Rattle.server_core.specs.declared.offers.Offer.{Offer}
use Rattle.server_core.specs.Offers.{fits_offer}
use Rattle.world_lab.specs.declared.plays.SentReport.{SentReport}
use Rattle.world_lab.specs.declared.written.Written.{Written}
use Rattle.world_lab.specs.declared.written.Written.TheVariants.{Nothing, Takes, Asks, Offered}

-- a delivery, by its reply
abbrev pub delivery_line : SentReport → ServerToAgent → Written
delivery_line r reply = if has_bit reply.flags REPORT_FULL_STATE then Asks r.server else Takes r.server r.message.sequence_num

-- an offer, by whether the server holds the agent
abbrev pub offer_line : Bool → Offer → Written
offer_line held offer = if held && fits_offer offer then Offered else Nothing
