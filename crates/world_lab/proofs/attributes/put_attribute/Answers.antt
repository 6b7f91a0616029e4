use Rattle.std.proofs.Common.{◌≡◌, ◌∙◌, ap, sym, rules}
use Rattle.world_lab.specs.Playing.{put_attribute}
use Rattle.world_lab.proofs.PutAttribute.{put_at_place, put_at_end}
use Rattle.world_lab.proofs.attributes.put_attribute.Goals as goal
use Rattle.world_lab.proofs.attributes.put_attribute.Goals.{in-Some, in-None+in_ok-push-in-None}

pub returns : goal.returns
returns c =
    let key = c.args.key.now in
    let text = c.args.text.now in
    let held = c.args.attributes.now in
    let same = c.into_vec-items.ensures.value ∙ c.in_ok-copy.ensures.copied in
    let place = sym c.place_of-place.ensures.place in
    let items : c.match-place.items.items ≡ put_attribute held key text =
    elim c.match-place.branch [
      | in-Some w ↦ ap (λ v. v.items) w.items-is ∙ put_at_place key text held c.into_vec-items.result.items _ c.in_ok-attribute.attribute w.in-Some.at (search rules) same c.in_ok-attribute.ensures (search rules)
      | in-None+in_ok-push-in-None w ↦ ap (λ v. v.items) w.items-is ∙ put_at_end key text held c.into_vec-items.result.items _ c.in_ok-attribute.attribute (search rules) same c.in_ok-attribute.ensures w.in_ok-push-in-None.ensures.items
    ] in
    record { attributes = c.of.ensures.value ∙ items }
