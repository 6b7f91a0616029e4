use Rattle.message_deltas.proofs.merging.merge_taken.Goals as goal

pub returns : goal.returns
returns c =
    record {
      state = λ i. record {
        description = c.swap_in.ensures.value i;
        capabilities = c.args.report.now.capabilities;
        health = c.swap_optional.ensures.value i;
        effective = c.swap_optional-2.ensures.value i;
        remote = c.swap_optional-3.ensures.value i;
        packages = c.swap_optional-4.ensures.value i;
        components = c.take_hash.ensures.kept i;
        custom = c.swap_in-2.ensures.value i;
      };
    }
