use Rattle.std.proofs.Common.{◌≡◌, ◌∙◌, ℕ, ◌<◌, List, [], ◌∷◌, Bool, true, cond, length, get_or, set, Some, slice_get, ap, sym, arith}
use Rattle.server_core.specs.declared.rows.TheConstants.{AGENT_LIMIT}
use Rattle.server_core.specs.History.{Offered as OfferMade}
use Rattle.server_core.specs.declared.offers.Offer.{Offer}
use Rattle.server_core.specs.Served.{Served}
use Rattle.server_core.specs.Table.{is_held, table_after}
use Rattle.world_model.specs.World.{Offered, entry_held}
use Rattle.world_scripts.specs.Words.{is_url}
use Rattle.world_scripts.specs.declared.lines.Line.TheVariants as lines
use Rattle.world_lab.specs.declared.written.Written.TheVariants.{Nothing}
use Rattle.world_lab.specs.Playing.{endpoint_of, endpoint_offer, happens, world_of}
use Rattle.world_lab.specs.Transcripts.{offered_line}
use Rattle.world_lab.specs.Serving.{offer_line}
use Rattle.world_lab.proofs.Sent.{get_there}
use Rattle.world_lab.proofs.Urls.{url_is_offered}
use Rattle.world_lab.proofs.Deliveries.{connection_is_offer}
use Rattle.world_lab.proofs.Lines.{if_both, offered_plays}
use Rattle.world_lab.proofs.servers.offer_connection.Goals as goal

abbrev after_offer : Served → List ℕ → Offer → Served
after_offer s uid offer = record s { table = table_after s.table (OfferMade uid offer) }

pub returns : goal.returns
returns c =
    let servers = c.args.servers.now in
    let server = get_or servers c.from.result c.index-servers-from.result in
    let within : c.from.result < length servers = omega (arith, c.from.ensures, c.requires.digit, c.requires.all) in
    let there = ap (λ (n : ℕ). slice_get servers n) (sym c.from.ensures) ∙ get_there servers c.from.result c.index-servers-from.result within c.index-servers-from.is ∙ ap (λ s. Some s) c.index-servers-from.is in
    let uid = c.saved.result.now.uid in
    let uid_is = ap (λ s. s.uid) c.saved.ensures.saved in
    let url = c.args.url.now in
    let offer = endpoint_offer url in
    let is : is_url url ≡ true = ap is_url (sym (c.as_bytes.ensures.value ∙ c.as_str.ensures.value)) ∙ sym c.if-not-is_url.ensures.url in
    let offer_is = ap (λ (u : List ℕ). endpoint_offer u) c.in_ok-copy.ensures.copied in
    record {
      played = if_both c.offer_settings.result
          (λ written step text. offered_plays c.runs_go_on.ensures.world c.runs_go_on.ensures.arrivals (c.table_follows_history.ensures.follows AGENT_LIMIT) c.records_are_entries.ensures.held c.one_agent_has_room.ensures.room
          (lines.OfferConnection c.args.server url) c.args.server offer (connection_is_offer _ (url_is_offered url is))
          (λ p. ap (λ (b : Bool). happens p (cond b (Offered (endpoint_of c.args.server) (world_of p).agent.saved.uid offer ∷ []) [])) is)
          (λ p. ap (λ (b : Bool). cond b (offered_line (entry_held (world_of p) (endpoint_of c.args.server) (world_of p).agent.saved.uid) offer) Nothing) is)
          c.args.play.now servers _ server c.offer_settings.new.server uid written c.requires.digit uid_is there
          (step ∙ ap (λ o. after_offer server uid o) offer_is)
          (ap (λ (n : ℕ). set servers n c.offer_settings.new.server) c.from.ensures)
          (text ∙ ap (λ o. offer_line (is_held server.table uid) o) offer_is))
          c.offer_settings.ensures.server c.offer_settings.ensures.written;
    }
