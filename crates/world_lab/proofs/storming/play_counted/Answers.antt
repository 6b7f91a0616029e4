use Rattle.std.proofs.Common.{◌∙◌, ℕ, length, ap}
use Rattle.world_lab.specs.declared.storming.Summary.{Summary}
use Rattle.world_lab.specs.Playing.{script_progress}
use Rattle.world_lab.specs.Transcripts.{lines_written}
use Rattle.world_lab.specs.Storming.{counts_of, storm_script}
use Rattle.world_lab.proofs.storming.play_counted.Goals as goal

pub first_number-requires : goal.first_number-requires
first_number-requires c = record { all = ap length c.in-Ok.ensures.mirrors.world.servers_are }

pub returns-in-Ok-clause-summary : goal.returns-in-Ok-clause-summary
returns-in-Ok-clause-summary c =
    let lines = storm_script c.args.start c.args.count in
    ap {A = Summary} (λ s. record s { number = c.first_number.result }) c.in-Ok.ensures.counts
    ∙ ap (λ (n : ℕ). counts_of (lines_written lines) n) (c.first_number.ensures.number (script_progress lines) c.in-Ok.ensures.mirrors)

pub returns-in-Ok-clause-mirrors : goal.returns-in-Ok-clause-mirrors
returns-in-Ok-clause-mirrors c = c.in-Ok.ensures.mirrors

pub returns-in-Err-clause-summary : goal.returns-in-Err-clause-summary
returns-in-Err-clause-summary c = tt

pub returns-in-Err-clause-mirrors : goal.returns-in-Err-clause-mirrors
returns-in-Err-clause-mirrors c = tt
