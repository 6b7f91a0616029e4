use Rattle.command_frames.proofs.Refusals.{own_form_fits, passed_gives}
use Rattle.command_frames.proofs.canon.Canon.pass_on.Goals as goal

pub add_frame_of-requires : goal.add_frame_of-requires
add_frame_of-requires g c = record { fits = own_form_fits g.M.Outermost.family c.args.message.now c.requires.own_form }

pub returns-clause-gives : goal.returns-clause-gives
returns-clause-gives g c = passed_gives g.M.Outermost.family c.args.self.now c.args.message.now c.args.output.now.bytes c.add_frame_of.new.output.bytes c.requires.own_form c.in_ok-add_frame_of.ensures.added
