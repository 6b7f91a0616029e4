use Rattle.std.proofs.Common.{◌∙◌, ap, sym, subst, length, arith}
use Rattle.message_handlers.specs.Lengths.{AreShort}
use Rattle.message_handlers.specs.Handling.{is_held}
use Rattle.message_handlers.proofs.Ordering.{Keys, keys_len, ordered}
use Rattle.message_handlers.proofs.stored.Handlers.names.Goals as goal

pub returns : goal.returns
returns g c = record {
  names = ordered _ _ _ c.as_slice-2.ensures.ascending (λ name. c.in_ok-set.ensures.held name ∙ ap (λ names. is_held names name) c.as_slice.ensures.value)
      (c.in_ok-keys_of.ensures.keys ∙ ap Keys c.as_slice-2.ensures.value);
  few = omega (
    arith,
    ap length c.in_ok-keys_of.ensures.keys,
    keys_len c.as_slice-2.result.now,
    ap length c.as_slice-2.ensures.value,
    c.in_ok-set.ensures.few,
    ap length c.as_slice.ensures.value,
    c.as_slice.ensures.len,
    c.args.self.now.few,
  );
  short = subst AreShort (sym (c.in_ok-keys_of.ensures.keys ∙ ap Keys c.as_slice-2.ensures.value)) c.in_ok-set.ensures.short;
}
