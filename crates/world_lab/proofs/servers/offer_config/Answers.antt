use Rattle.std.proofs.Common.{◌∙◌, ℕ, ◌<◌, List, length, get_or, set, Some, slice_get, ap, sym, refl, arith}
use Rattle.server_core.specs.declared.rows.TheConstants.{AGENT_LIMIT}
use Rattle.server_core.specs.History.{Offered as OfferMade}
use Rattle.server_core.specs.declared.offers.Offer.{Offer}
use Rattle.server_core.specs.Served.{Served}
use Rattle.server_core.specs.Table.{is_held, table_after}
use Rattle.world_scripts.specs.declared.lines.Line.TheVariants as lines
use Rattle.world_lab.specs.Playing.{file_offer}
use Rattle.world_lab.specs.Serving.{offer_line}
use Rattle.world_lab.proofs.Sent.{get_there}
use Rattle.world_lab.proofs.Deliveries.{file_is_offer}
use Rattle.world_lab.proofs.Lines.{if_both, offered_plays}
use Rattle.world_lab.proofs.servers.offer_config.Goals as goal

abbrev after_offer : Served → List ℕ → Offer → Served
after_offer s uid offer = record s { table = table_after s.table (OfferMade uid offer) }

pub returns : goal.returns
returns c =
    let servers = c.args.servers.now in
    let server = get_or servers c.from.result c.index-servers-from.result in
    let within : c.from.result < length servers = omega (arith, c.from.ensures, c.requires.digit, c.requires.all) in
    let there = ap (λ (n : ℕ). slice_get servers n) (sym c.from.ensures) ∙ get_there servers c.from.result c.index-servers-from.result within c.index-servers-from.is ∙ ap (λ s. Some s) c.index-servers-from.is in
    let uid = c.saved.result.now.uid in
    let uid_is = ap (λ s. s.uid) c.saved.ensures.saved in
    let offer = file_offer c.args.name.now c.args.text.now in
    record {
      played = if_both c.offer_file.result
          (λ written step text. offered_plays c.runs_go_on.ensures.world c.runs_go_on.ensures.arrivals (c.table_follows_history.ensures.follows AGENT_LIMIT) c.records_are_entries.ensures.held c.one_agent_has_room.ensures.room
          (lines.OfferConfig c.args.server c.args.name.now c.args.text.now) c.args.server offer (file_is_offer _) (λ a. refl) (λ w. refl)
          c.args.play.now servers _ server c.offer_file.new.server uid written c.requires.digit uid_is there
          (step ∙ ap (λ o. after_offer server uid o) c.in_ok-config.ensures)
          (ap (λ (n : ℕ). set servers n c.offer_file.new.server) c.from.ensures)
          (text ∙ ap (λ o. offer_line (is_held server.table uid) o) c.in_ok-config.ensures))
          c.offer_file.ensures.server c.offer_file.ensures.written;
    }
