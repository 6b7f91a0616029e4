use Rattle.std.proofs.Common.{ℕ, ◌+◌, List, ◌++◌, take, subst, arith, length-append}
use Rattle.message_attributes.proofs.PartLaws.{on_ok}
use Rattle.message_reports.specs.ReportPieces.{WasFed}
use Rattle.message_reports.proofs.ReportFed.{whole_in, fed_in, in_all, after_fields, after_all, after_fault}
use Rattle.message_reports.proofs.report_reader.ReportReader.feed_whole.Goals as goal

pub overflow_sub-room : goal.overflow_sub-room
overflow_sub-room c =
    let w = c.requires.in_use in
    let k = whole_in c.args.self.now w.bytes c.requires.whole w.fed in
    omega (arith, k.place, k.begun.within)

pub returns-then-count-piece : goal.returns-then-count-piece
returns-then-count-piece c = record {
  fed = λ bytes h.
      let k = whole_in c.args.self.now bytes c.requires.whole h in
      fed_in (record c.args.self.now { report = c.take_whole.new.message; place = c.args.self.now.place + c.in-Ok.count }) (bytes ++ c.args.piece.now) c.requires.whole (after_all c.args.self.now c.take_whole.new.message bytes c.args.piece.now c.in-Ok.count (omega arith) (omega (arith, k.place, k.begun.within, c.if-piece-room.false)) c.in-Ok.ensures.whole k);
}

pub go_on-requires-in-Ok : goal.go_on-requires-in-Ok
go_on-requires-in-Ok c =
    let w = c.requires.in_use in
    let k = whole_in c.args.self.now w.bytes c.requires.whole w.fed in
    record {
      in_use = record {
        bytes = w.bytes ++ take c.in-Ok.count c.args.piece.now;
        fed = fed_in (record c.args.self.now { report = c.take_whole.new.message; place = c.args.self.now.place + c.in-Ok.count }) (w.bytes ++ take c.in-Ok.count c.args.piece.now) c.requires.whole (after_fields c.args.self.now c.take_whole.new.message w.bytes c.args.piece.now c.in-Ok.count c.in-Ok.ensures.within (omega (arith, k.place, k.begun.within, c.if-piece-room.false)) c.in-Ok.ensures.whole k);
      };
      whole = c.requires.whole;
    }

pub returns-else-count-piece : goal.returns-else-count-piece
returns-else-count-piece c = record {
  fed = on_ok c.go_on-in-Ok.result _ _
      (λ k. λ (bytes : List ℕ) (h : WasFed c.args.self.now bytes).
      let w = whole_in c.args.self.now bytes c.requires.whole h in
      subst (λ (l : List ℕ). WasFed c.go_on-in-Ok.new.self l) (in_all bytes c.args.piece.now c.in-Ok.count c.in-Ok.ensures.within)
      (k (bytes ++ take c.in-Ok.count c.args.piece.now) (fed_in (record c.args.self.now { report = c.take_whole.new.message; place = c.args.self.now.place + c.in-Ok.count }) (bytes ++ take c.in-Ok.count c.args.piece.now) c.requires.whole (after_fields c.args.self.now c.take_whole.new.message bytes c.args.piece.now c.in-Ok.count c.in-Ok.ensures.within (omega (arith, w.place, w.begun.within, c.if-piece-room.false)) c.in-Ok.ensures.whole w))))
      c.go_on-in-Ok.ensures.fed;
}

pub returns-in-Err-Refused : goal.returns-in-Err-Refused
returns-in-Err-Refused c = record {
  fed = on_ok c.fail.result _ _
      (λ k. λ (bytes : List ℕ) (h : WasFed c.args.self.now bytes).
      let w = whole_in c.args.self.now bytes c.requires.whole h in
      k (bytes ++ c.args.piece.now) (omega (arith, w.place, length-append bytes c.args.piece.now)) (omega (arith, w.place, w.begun.within, c.if-piece-room.false, length-append bytes c.args.piece.now))
      (after_fault c.args.self.now bytes c.args.piece.now c.in-Err-Refused.refused.at c.in-Err-Refused.refused.why (omega (arith, w.place, w.begun.within, c.if-piece-room.false)) (rw c.in-Err-Refused.field-0-is at c.in-Err-Refused.ensures.refused) w))
      c.fail.ensures.failed;
}
