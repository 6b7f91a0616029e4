use Rattle.message_replies.specs.Canonical.{canonical_reply}
use Rattle.server_core.specs.Replies.{bare_reply}
use Rattle.server_sessions.proofs.Written.{put_after}
use Rattle.server_sessions.proofs.answers.plain.put_behind.Goals as goal

pub returns : goal.returns
returns c = record {
  put = put_after c.args.out.now c.reserve.new.self c.append.new.self c.put_plain.new.out _ c.args.front.now (canonical_reply (bare_reply c.args.uid.now c.args.capabilities)) c.put_plain.result
      c.in_ok-reserve.ensures.ok c.in_ok-append.ensures.appends.ok c.put_plain.ensures.put;
}
