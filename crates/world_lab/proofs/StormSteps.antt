-- A play of a storm, one line further.
use Rattle.std.proofs.Common.{◌≡◌, ◌∙◌, ℕ, ◌+◌, ◌≤◌, List, [], ◌∷◌, ◌++◌, length, length-append, ap, sym, subst, arith}
use Rattle.server_core.specs.Served.{Served}
use Rattle.world_scripts.specs.Storms.{next_line, next_state}
use Rattle.world_scripts.specs.declared.lines.Line.{Line}
use Rattle.world_lab.specs.declared.plays.Play.{Play}
use Rattle.world_lab.specs.declared.storming.Summary.{Summary}
use Rattle.world_lab.specs.declared.written.Written.{Written}
use Rattle.world_lab.specs.Playing.{Progress, after_line, script_progress, world_of}
use Rattle.world_lab.specs.Transcripts.{lines_written}
use Rattle.world_lab.specs.Storming.{counts_of, storm_script}
use Rattle.world_lab.specs.Mirrors.{IsPlayed, Mirrors}
use Rattle.world_lab.proofs.Sent.{sent_length}
use Rattle.world_lab.proofs.Events.{line_makes}
use Rattle.world_lab.proofs.Storms.{next_of_storm, state_after, state_step, storm_step, storm_written}

-- how far a storm is, by its counts
pub record IsStorm (start : ℕ) (play : Play) (servers : List Served) (source : ℕ) (summary : Summary) : Type 0 where
  pub mirrors : Mirrors (script_progress (storm_script start summary.events)) play servers
  pub source_is : source ≡ state_after start summary.events
  pub counts : summary ≡ counts_of (lines_written (storm_script start summary.events)) 0

-- one line further
pub record IsNextStorm (start : ℕ) (old new : Summary) (play : Play) (servers : List Served) (source : ℕ) : Type 0 where
  pub more : new.events ≡ old.events + 1
  pub storm : IsStorm start play servers source new
  pub few : length (script_progress (storm_script start new.events)).events ≤ length (script_progress (storm_script start old.events)).events + 1

pub storm_grown : (old new : Summary) (lines : List Written) (written : Written) → old ≡ counts_of lines 0 → new ≡ counts_of (lines ++ written ∷ []) 0 → new.events ≡ old.events + 1
storm_grown old new lines written was counted =
    let one_more : length (lines ++ written ∷ []) ≡ length lines + 1 = length-append lines (written ∷ []) in
    ap (λ s. s.events) counted ∙ one_more ∙ ap (λ (k : ℕ). k + 1) (sym (ap (λ s. s.events) was))

pub storm_steps : (start : ℕ) (play play' : Play) (servers servers' : List Served) (source source' sent : ℕ) (line : Line) (written : Written) (old new : Summary)
    → IsStorm start play servers source old → sent ≡ length play.sent.items → line ≡ next_line source sent → source' ≡ next_state source
    → IsPlayed (script_progress (storm_script start old.events)) line play' servers' written
    → new ≡ counts_of (lines_written (storm_script start old.events) ++ written ∷ []) 0
    → IsNextStorm start old new play' servers' source'
storm_steps start play play' servers servers' source source' sent line written old new storm sent_is line_is source_is played counted = record {
  more = more;
  storm = record {
    mirrors = subst (λ (q : Progress). Mirrors q play' servers') (sym progress_is) played.mirrors;
    source_is = source_is ∙ ap next_state storm.source_is ∙ sym (state_step start old.events) ∙ ap (state_after start) (sym more);
    counts =
        counted
        ∙ ap (λ (ls : List Written). counts_of ls 0)
        (sym (ap (λ (k : ℕ). lines_written (storm_script start k)) more ∙ storm_written start old.events line written line_so played.written));
  };
  few =
      let same : length (script_progress (storm_script start new.events)).events ≡ length (after_line (script_progress (storm_script start old.events)) line).events = ap (λ (q : Progress). length q.events) progress_is in
      let makes = line_makes (script_progress (storm_script start old.events)) line in
      omega (arith, same, makes);
}
  where
    more : new.events ≡ old.events + 1
    more = storm_grown old new (lines_written (storm_script start old.events)) written storm.counts counted

    sent_so : sent ≡ length (world_of (script_progress (storm_script start old.events))).sent
    sent_so = sent_is ∙ sent_length play.sent.items (world_of (script_progress (storm_script start old.events))).sent storm.mirrors.world.sent_are

    line_so : line ≡ next_of_storm start old.events
    line_so = line_is ∙ (λ i. next_line (storm.source_is i) (sent_so i))

    progress_is : script_progress (storm_script start new.events) ≡ after_line (script_progress (storm_script start old.events)) line
    progress_is = ap (λ (k : ℕ). script_progress (storm_script start k)) more ∙ storm_step start old.events line line_so
