-- What a change of the shelf keeps.
use Rattle.std.proofs.Common.{◌≡◌, ℕ, List, [], ◌∷◌, Bool, false, ◌||◌, Option, Some, None, Result, Ok, Err, is_some, refl, sym, ◌∙◌, ap, subst, inl, inr}
use Rattle.std.specs.Prelude.{is_ok, IfNone}
use Rattle.edge_devices.specs.declared.folders.FolderFail.{FolderFail}
use Rattle.message_values.specs.declared.config.AgentRemoteConfig.{AgentRemoteConfig}
use Rattle.message_values.specs.declared.connection.ConnectionSettingsOffers.{ConnectionSettingsOffers}
use Rattle.message_values.specs.declared.packages.PackagesAvailable.{PackagesAvailable}
use Rattle.server_core.specs.declared.offers.Offers.{Offers}
use Rattle.server_core.specs.Offers.{no_offers}
use Rattle.edge_shelf.specs.Shelves.{Body, Changes, ShelfState}
use Rattle.message_values.specs.declared.reply.ServerToAgent.{ServerToAgent}
use Rattle.server_kept.specs.Files.{StandsFor, file_name, has_offer, kept_reply}
use Rattle.server_kept.specs.Keeping.{Keeps}

none_in : (a : Option AgentRemoteConfig) (b : Option PackagesAvailable) (c : Option ConnectionSettingsOffers) → (is_some a || (is_some b || is_some c)) ≡ false
    → record { config = a; packages = b; connection = c } ≡ no_offers
none_in None None None e = refl
none_in (Some a) b c e = absurd (cc e)
none_in None (Some b) c e = absurd (cc e)
none_in None None (Some c) e = absurd (cc e)

-- offers of which none stands
pub none_stands : (offers : Offers) (some : Bool) → some ≡ has_offer offers → some ≡ false → offers ≡ no_offers
none_stands offers some is e = none_in offers.config offers.packages offers.connection (sym is ∙ e)

pub changed : (uid name : List ℕ) (offers : Offers) (body : Body) (old new : ShelfState) (answer : Result Unit FolderFail) (done : Bool)
    → name ≡ file_name uid → done ≡ is_ok answer → StandsFor uid offers body → Changes name body old new answer → Keeps uid offers done old new
changed uid name offers body old new (Ok value) done named is stands c =
    let c : Changes (file_name uid) body old new (Ok value) = subst (λ n. Changes {T = Unit {0}} n body old new (Ok value)) named c in
    record {
      told = c.cause.told;
      read = λ _ told. subst (λ b. StandsFor uid offers b) (sym (c.done told).0) stands;
      settled = λ _ told. (c.done told).1 ∙ ap (λ b. b ∷ []) (sym (c.done told).0);
      not_done = λ no. absurd (cc (sym is ∙ no));
      others = c.others;
      later = c.cause.later;
    }
changed uid name offers body old new (Err fail) done named is stands c =
    let c : Changes {T = Unit {0}} (file_name uid) body old new (Err fail) = subst (λ n. Changes {T = Unit {0}} n body old new (Err fail)) named c in
    record {
      told = c.cause.told;
      read = λ yes. absurd (cc (sym is ∙ yes));
      settled = λ yes. absurd (cc (sym is ∙ yes));
      not_done = λ _ told b among. elim (c.not_done told b among) [
        | inl former ↦ inl former
        | inr is ↦ inr (subst (λ b. StandsFor uid offers b) (sym is) stands)
      ];
      others = c.others;
      later = c.cause.later;
    }

pub none_weaker : {T : Type 0} (found : Option T) (P Q : Type 0) → (P → Q) → IfNone found P → IfNone found Q
none_weaker None P Q f p = f p
none_weaker (Some value) P Q f p = p

-- the offers that are taken out of a kept message
pub taken : (message : ServerToAgent) (uid : List ℕ) (offers : Offers) → message ≡ kept_reply uid offers
    → record { config = message.remote_config; packages = message.packages_available; connection = message.connection_settings } ≡ offers
taken message uid offers is = ap (λ (m : ServerToAgent). record { config = m.remote_config; packages = m.packages_available; connection = m.connection_settings }) is
