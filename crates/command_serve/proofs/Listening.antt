-- Calls by which addresses are listened to, one after another, and the note of the one that failed.
use Rattle.std.proofs.Common.{List, [], ◌∷◌, ◌++◌, Option, None, Some, refl, sym, ap, ◌∙◌, arith, append_assoc, append-nil}
use Rattle.edge_devices.specs.declared.wires.WireCall.{WireCall}
use Rattle.edge_devices.specs.declared.wires.WireCall.TheVariants.{Listened}
use Rattle.edge_devices.specs.declared.wires.Kind.TheVariants.{Http, Ws, Operator}
use Rattle.edge_devices.specs.declared.wires.WireFault.{WireFault}
use Rattle.edge_devices.specs.Streams.{SinkView}
use Rattle.edge_devices.specs.Wires.{Grows}
use Rattle.edge_notes.specs.Noted.{IsNoted}
use Rattle.command_words.specs.declared.commands.ServeOptions.{ServeOptions}
use Rattle.server_sessions.specs.Wiring.{WireView, IsDone, IsFailed}
use Rattle.command_serve.specs.Notes.{NotesAddress, address_line}
use Rattle.command_serve.specs.Serving.{FailsToListen, Listens, listenings}

grows_nothing : {T : Type 0} (calls : Option (List T)) → Grows calls calls []
grows_nothing None = refl
grows_nothing (Some calls) = sym (append-nil calls)

grows_more : {T : Type 0} (a b c : Option (List T)) (xs ys : List T) → Grows a b xs → Grows b c ys → Grows a c (xs ++ ys)
grows_more None None c xs ys first second = second
grows_more None (Some b) c xs ys first second = absurd (cc)
grows_more (Some a) None c xs ys first second = absurd first
grows_more (Some a) (Some b) None xs ys first second = absurd second
grows_more (Some a) (Some b) (Some c) xs ys first second = second ∙ ap (λ l. l ++ ys) first ∙ append_assoc a xs ys

none_listened : (wire : WireView) → Listens [] wire wire
none_listened wire = record { told = grows_nothing wire.calls; count = omega arith }

pub more_listened : (calls : List WireCall) (call : WireCall) (a b c : WireView) → Listens calls a b → IsDone call b c → Listens (calls ++ call ∷ []) a c
more_listened calls call a b c before done = record {
  told = grows_more a.calls b.calls c.calls calls (call ∷ []) before.told done.told;
  count = omega (arith, before.count, done.count);
}

pub one_listened : (call : WireCall) (a b : WireView) → IsDone call a b → Listens (call ∷ []) a b
one_listened call a b done = more_listened [] call a a b (none_listened a) done

-- the first address failed
pub first_fails : (options : ServeOptions) (a b : WireView) → IsFailed a b → FailsToListen options a b
first_fails options a b fails = record {
  before = [];
  failed = Listened Http options.http;
  after = Listened Ws options.ws ∷ Listened Operator options.operator ∷ [];
  parts = refl;
  mid = a;
  listens = none_listened a;
  fails = fails;
}

-- the second
pub second_fails : (options : ServeOptions) (a b c : WireView) → IsDone (Listened Http options.http) a b → IsFailed b c → FailsToListen options a c
second_fails options a b c http fails = record {
  before = Listened Http options.http ∷ [];
  failed = Listened Ws options.ws;
  after = Listened Operator options.operator ∷ [];
  parts = refl;
  mid = b;
  listens = one_listened (Listened Http options.http) a b http;
  fails = fails;
}

-- the third
pub third_fails : (options : ServeOptions) (a b c d : WireView) → IsDone (Listened Http options.http) a b → IsDone (Listened Ws options.ws) b c → IsFailed c d → FailsToListen options a d
third_fails options a b c d http ws fails = record {
  before = Listened Http options.http ∷ Listened Ws options.ws ∷ [];
  failed = Listened Operator options.operator;
  after = [];
  parts = refl;
  mid = c;
  listens = more_listened (Listened Http options.http ∷ []) (Listened Ws options.ws) a b c (one_listened (Listened Http options.http) a b http) ws;
  fails = fails;
}

-- none
pub all_listened : (options : ServeOptions) (a b c d : WireView) → IsDone (Listened Http options.http) a b → IsDone (Listened Ws options.ws) b c → IsDone (Listened Operator options.operator) c d
    → Listens (listenings options) a d
all_listened options a b c d http ws operator =
    more_listened (Listened Http options.http ∷ Listened Ws options.ws ∷ []) (Listened Operator options.operator) a c d
    (more_listened (Listened Http options.http ∷ []) (Listened Ws options.ws) a b c (one_listened (Listened Http options.http) a b http) ws) operator

-- ---- the address that failed, noted

pub first_noted : (options : ServeOptions) (a b : WireView) (fault : WireFault) (before after : SinkView) → IsFailed a b → IsNoted (address_line options.http fault) before after → NotesAddress options a b before after
unfolding first_fails
first_noted options a b fault before after fails noted = record { fails = first_fails options a b fails; fault = fault; noted = noted }

pub second_noted : (options : ServeOptions) (a b c : WireView) (fault : WireFault) (before after : SinkView) → IsDone (Listened Http options.http) a b → IsFailed b c
    → IsNoted (address_line options.ws fault) before after → NotesAddress options a c before after
unfolding second_fails
second_noted options a b c fault before after http fails noted = record { fails = second_fails options a b c http fails; fault = fault; noted = noted }

pub third_noted : (options : ServeOptions) (a b c d : WireView) (fault : WireFault) (before after : SinkView) → IsDone (Listened Http options.http) a b → IsDone (Listened Ws options.ws) b c → IsFailed c d
    → IsNoted (address_line options.operator fault) before after → NotesAddress options a d before after
unfolding third_fails
third_noted options a b c d fault before after http ws fails noted = record { fails = third_fails options a b c d http ws fails; fault = fault; noted = noted }
