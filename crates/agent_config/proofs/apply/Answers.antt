use Rattle.agent_config.proofs.Undoing.{applied_bad, applied_fault, applies, bad_applied, bad_fault, brought_back, did_nothing, ended, err_ended, fault_applied, fault_bad, gave_up, left_mixed, mixed_settled, none_bad, rises_again, same_bad, same_ended, settled_mixed, still_risen, wanted, wanted_nothing, wanting_ended}
use Rattle.std.proofs.Common.{◌≡◌, true, Some, refl, subst, sym, ap, ◌∙◌}
use Rattle.std.proofs.lemmas.Result.{IfOk-from_err}
use Rattle.plain_values.specs.declared.files.AgentConfigMap.{AgentConfigMap}
use Rattle.edge_devices.specs.Names.{are_good_names}
use Rattle.edge_devices.specs.declared.folders.Area.TheVariants.{Config}
use Rattle.agent_config.specs.Config.{AreFiles, files_of, first_bad}
use Rattle.agent_config.specs.declared.Outcome.TheVariants.{BadName}
use Rattle.agent_config.proofs.Naming.{no_bad}
use Rattle.agent_config.proofs.apply.Goals as goal

pub bring-requires : goal.bring-requires
bring-requires g c = no_bad c.tried-tried.result.now.config_map (sym c.in_default.ensures.bad)

pub returns-in-Ok-clause-applied : goal.returns-in-Ok-clause-applied
returns-in-Ok-clause-applied g c = λ is told. subst (λ (config : AgentConfigMap). AreFiles ((g.F.Folder.state c.bring.new.folder).files Config) (files_of config.config_map)) c.tried-tried.ensures.tried (c.in-Ok.ensures.files told)

pub returns-in-Ok-clause-names : goal.returns-in-Ok-clause-names
returns-in-Ok-clause-names g c = λ is. subst (λ (config : AgentConfigMap). are_good_names config.config_map ≡ true) c.tried-tried.ensures.tried (no_bad c.tried-tried.result.now.config_map (sym c.in_default.ensures.bad))

pub returns-in-Ok-clause-settled : goal.returns-in-Ok-clause-settled
returns-in-Ok-clause-settled g c = λ is. applied_fault true is

pub returns-in-Ok-clause-others : goal.returns-in-Ok-clause-others
returns-in-Ok-clause-others g c = c.bring.ensures.others

pub returns-in-Ok-clause-bad_name : goal.returns-in-Ok-clause-bad_name
returns-in-Ok-clause-bad_name g c = λ name is. none_bad (first_bad c.args.trial.now.tried.config_map) name (ap (λ (config : AgentConfigMap). first_bad config.config_map) (sym c.tried-tried.ensures.tried) ∙ sym c.in_default.ensures.bad) is

pub returns-in-Ok-clause-untouched : goal.returns-in-Ok-clause-untouched
returns-in-Ok-clause-untouched g c = λ name is. none_bad (first_bad c.args.trial.now.tried.config_map) name (ap (λ (config : AgentConfigMap). first_bad config.config_map) (sym c.tried-tried.ensures.tried) ∙ sym c.in_default.ensures.bad) is

pub returns-in-Ok-clause-good_names : goal.returns-in-Ok-clause-good_names
returns-in-Ok-clause-good_names g c = λ name is. applied_bad name is

pub returns-in-Ok-clause-calls : goal.returns-in-Ok-clause-calls
returns-in-Ok-clause-calls g c = applies _ _ c.in-Ok.ensures.calls

pub returns-in-Ok-clause-again : goal.returns-in-Ok-clause-again
returns-in-Ok-clause-again g c = λ is. applied_fault _ is

pub returns-in-Ok-clause-fault : goal.returns-in-Ok-clause-fault
returns-in-Ok-clause-fault g c = λ settled is. applied_fault settled is

pub returns-in-Err-NoMemory-clause-applied : goal.returns-in-Err-NoMemory-clause-applied
returns-in-Err-NoMemory-clause-applied g c = λ is. wanting_ended _ _ is

pub returns-in-Err-NoMemory-clause-names : goal.returns-in-Err-NoMemory-clause-names
returns-in-Err-NoMemory-clause-names g c = λ is. wanting_ended _ _ is

pub returns-in-Err-NoMemory-clause-settled : goal.returns-in-Err-NoMemory-clause-settled
returns-in-Err-NoMemory-clause-settled g c = λ is. wanting_ended _ _ is

pub returns-in-Err-NoMemory-clause-good_names : goal.returns-in-Err-NoMemory-clause-good_names
returns-in-Err-NoMemory-clause-good_names g c = λ name is. wanting_ended _ _ is

pub returns-in-Err-NoMemory-clause-again : goal.returns-in-Err-NoMemory-clause-again
returns-in-Err-NoMemory-clause-again g c = λ is. wanting_ended _ _ is

pub returns-in-Err-NoMemory-clause-fault : goal.returns-in-Err-NoMemory-clause-fault
returns-in-Err-NoMemory-clause-fault g c = λ settled is. wanting_ended _ _ is

pub returns-in-Err-NoMemory-clause-others : goal.returns-in-Err-NoMemory-clause-others
returns-in-Err-NoMemory-clause-others g c = c.bring.ensures.others

pub returns-in-Err-NoMemory-clause-calls : goal.returns-in-Err-NoMemory-clause-calls
returns-in-Err-NoMemory-clause-calls g c = wanted _ _ _ _ c.in-Err-NoMemory.ensures.calls

pub returns-in-Err-NoMemory-clause-bad_name : goal.returns-in-Err-NoMemory-clause-bad_name
returns-in-Err-NoMemory-clause-bad_name g c = λ name is. none_bad (first_bad c.args.trial.now.tried.config_map) name (ap (λ (config : AgentConfigMap). first_bad config.config_map) (sym c.tried-tried.ensures.tried) ∙ sym c.in_default.ensures.bad) is

pub returns-in-Err-NoMemory-clause-untouched : goal.returns-in-Err-NoMemory-clause-untouched
returns-in-Err-NoMemory-clause-untouched g c = λ name is. none_bad (first_bad c.args.trial.now.tried.config_map) name (ap (λ (config : AgentConfigMap). first_bad config.config_map) (sym c.tried-tried.ensures.tried) ∙ sym c.in_default.ensures.bad) is

pub returns-in-Ok-bring-clause-calls : goal.returns-in-Ok-bring-clause-calls
returns-in-Ok-bring-clause-calls g c = brought_back _ _ _ _ c.in-Err-Fault.field-0-is c.in-Err-Fault.ensures.calls c.in-Ok-bring.ensures.calls

pub returns-in-Ok-bring-clause-applied : goal.returns-in-Ok-bring-clause-applied
returns-in-Ok-bring-clause-applied g c = λ is. fault_applied true is

pub returns-in-Ok-bring-clause-names : goal.returns-in-Ok-bring-clause-names
returns-in-Ok-bring-clause-names g c = λ is. fault_applied true is

pub returns-in-Ok-bring-clause-others : goal.returns-in-Ok-bring-clause-others
returns-in-Ok-bring-clause-others g c = λ other file apart. c.bring-in-Err-Fault.ensures.others other file apart ∙ c.bring.ensures.others other file apart

pub returns-in-Ok-bring-clause-bad_name : goal.returns-in-Ok-bring-clause-bad_name
returns-in-Ok-bring-clause-bad_name g c = λ name is. none_bad (first_bad c.args.trial.now.tried.config_map) name (ap (λ (config : AgentConfigMap). first_bad config.config_map) (sym c.tried-tried.ensures.tried) ∙ sym c.in_default.ensures.bad) is

pub returns-in-Ok-bring-clause-untouched : goal.returns-in-Ok-bring-clause-untouched
returns-in-Ok-bring-clause-untouched g c = λ name is. none_bad (first_bad c.args.trial.now.tried.config_map) name (ap (λ (config : AgentConfigMap). first_bad config.config_map) (sym c.tried-tried.ensures.tried) ∙ sym c.in_default.ensures.bad) is

pub returns-in-Ok-bring-clause-good_names : goal.returns-in-Ok-bring-clause-good_names
returns-in-Ok-bring-clause-good_names g c = λ name is. fault_bad true name is

pub returns-in-Ok-bring-clause-again : goal.returns-in-Ok-bring-clause-again
returns-in-Ok-bring-clause-again g c = λ is. settled_mixed is

pub returns-in-Ok-bring-clause-fault : goal.returns-in-Ok-bring-clause-fault
returns-in-Ok-bring-clause-fault g c = λ settled is. still_risen _ _ _ _ c.in-Err-Fault.field-0-is c.in-Err-Fault.ensures.calls _ c.in-Ok-bring.ensures.calls

pub returns-in-Err-NoMemory-bring-clause-calls : goal.returns-in-Err-NoMemory-bring-clause-calls
returns-in-Err-NoMemory-bring-clause-calls g c = gave_up _ _ _ _ c.in-Err-Fault.field-0-is c.in-Err-Fault.ensures.calls _ _ c.in-Err-NoMemory-bring.ensures.calls

pub returns-in-Err-NoMemory-bring-clause-applied : goal.returns-in-Err-NoMemory-bring-clause-applied
returns-in-Err-NoMemory-bring-clause-applied g c = λ is. wanting_ended _ _ is

pub returns-in-Err-NoMemory-bring-clause-names : goal.returns-in-Err-NoMemory-bring-clause-names
returns-in-Err-NoMemory-bring-clause-names g c = λ is. wanting_ended _ _ is

pub returns-in-Err-NoMemory-bring-clause-settled : goal.returns-in-Err-NoMemory-bring-clause-settled
returns-in-Err-NoMemory-bring-clause-settled g c = λ is. wanting_ended _ _ is

pub returns-in-Err-NoMemory-bring-clause-good_names : goal.returns-in-Err-NoMemory-bring-clause-good_names
returns-in-Err-NoMemory-bring-clause-good_names g c = λ name is. wanting_ended _ _ is

pub returns-in-Err-NoMemory-bring-clause-again : goal.returns-in-Err-NoMemory-bring-clause-again
returns-in-Err-NoMemory-bring-clause-again g c = λ is. wanting_ended _ _ is

pub returns-in-Err-NoMemory-bring-clause-fault : goal.returns-in-Err-NoMemory-bring-clause-fault
returns-in-Err-NoMemory-bring-clause-fault g c = λ settled is. wanting_ended _ _ is

pub returns-in-Err-NoMemory-bring-clause-others : goal.returns-in-Err-NoMemory-bring-clause-others
returns-in-Err-NoMemory-bring-clause-others g c = λ other file apart. c.bring-in-Err-Fault.ensures.others other file apart ∙ c.bring.ensures.others other file apart

pub returns-in-Err-NoMemory-bring-clause-bad_name : goal.returns-in-Err-NoMemory-bring-clause-bad_name
returns-in-Err-NoMemory-bring-clause-bad_name g c = λ name is. none_bad (first_bad c.args.trial.now.tried.config_map) name (ap (λ (config : AgentConfigMap). first_bad config.config_map) (sym c.tried-tried.ensures.tried) ∙ sym c.in_default.ensures.bad) is

pub returns-in-Err-NoMemory-bring-clause-untouched : goal.returns-in-Err-NoMemory-bring-clause-untouched
returns-in-Err-NoMemory-bring-clause-untouched g c = λ name is. none_bad (first_bad c.args.trial.now.tried.config_map) name (ap (λ (config : AgentConfigMap). first_bad config.config_map) (sym c.tried-tried.ensures.tried) ∙ sym c.in_default.ensures.bad) is

pub returns-in-Err-Fault-bring-clause-calls : goal.returns-in-Err-Fault-bring-clause-calls
returns-in-Err-Fault-bring-clause-calls g c = left_mixed _ _ _ _ c.in-Err-Fault.field-0-is c.in-Err-Fault.ensures.calls _ c.in-Err-Fault-bring.field-0-is c.in-Err-Fault-bring.ensures.calls

pub returns-in-Err-Fault-bring-clause-again : goal.returns-in-Err-Fault-bring-clause-again
returns-in-Err-Fault-bring-clause-again g c t = rises_again _ _ _ _ c.in-Err-Fault.field-0-is c.in-Err-Fault.ensures.calls _ c.in-Err-Fault-bring.field-0-is c.in-Err-Fault-bring.ensures.calls

pub returns-in-Err-Fault-bring-clause-applied : goal.returns-in-Err-Fault-bring-clause-applied
returns-in-Err-Fault-bring-clause-applied g c = λ is. fault_applied _ is

pub returns-in-Err-Fault-bring-clause-names : goal.returns-in-Err-Fault-bring-clause-names
returns-in-Err-Fault-bring-clause-names g c = λ is. fault_applied _ is

pub returns-in-Err-Fault-bring-clause-settled : goal.returns-in-Err-Fault-bring-clause-settled
returns-in-Err-Fault-bring-clause-settled g c = λ is. mixed_settled is

pub returns-in-Err-Fault-bring-clause-others : goal.returns-in-Err-Fault-bring-clause-others
returns-in-Err-Fault-bring-clause-others g c = λ other file apart. c.bring-in-Err-Fault.ensures.others other file apart ∙ c.bring.ensures.others other file apart

pub returns-in-Err-Fault-bring-clause-bad_name : goal.returns-in-Err-Fault-bring-clause-bad_name
returns-in-Err-Fault-bring-clause-bad_name g c = λ name is. none_bad (first_bad c.args.trial.now.tried.config_map) name (ap (λ (config : AgentConfigMap). first_bad config.config_map) (sym c.tried-tried.ensures.tried) ∙ sym c.in_default.ensures.bad) is

pub returns-in-Err-Fault-bring-clause-untouched : goal.returns-in-Err-Fault-bring-clause-untouched
returns-in-Err-Fault-bring-clause-untouched g c = λ name is. none_bad (first_bad c.args.trial.now.tried.config_map) name (ap (λ (config : AgentConfigMap). first_bad config.config_map) (sym c.tried-tried.ensures.tried) ∙ sym c.in_default.ensures.bad) is

pub returns-in-Err-Fault-bring-clause-good_names : goal.returns-in-Err-Fault-bring-clause-good_names
returns-in-Err-Fault-bring-clause-good_names g c = λ name is. fault_bad _ name is

pub returns-in-Err-Fault-bring-clause-fault : goal.returns-in-Err-Fault-bring-clause-fault
returns-in-Err-Fault-bring-clause-fault g c = λ settled is. still_risen _ _ _ _ c.in-Err-Fault.field-0-is c.in-Err-Fault.ensures.calls _ c.in-Err-Fault-bring.ensures.calls

pub returns-in-Some-clause-applied : goal.returns-in-Some-clause-applied
returns-in-Some-clause-applied g c = λ is. bad_applied _ is

pub returns-in-Some-clause-names : goal.returns-in-Some-clause-names
returns-in-Some-clause-names g c = λ is. bad_applied _ is

pub returns-in-Some-clause-settled : goal.returns-in-Some-clause-settled
returns-in-Some-clause-settled g c = λ is. bad_fault _ _ is

pub returns-in-Some-clause-others : goal.returns-in-Some-clause-others
returns-in-Some-clause-others g c = λ other file apart. refl

pub returns-in-Some-clause-bad_name : goal.returns-in-Some-clause-bad_name
returns-in-Some-clause-bad_name g c = λ name is. ap (λ n. ended (BadName n)) (c.in_ok-copy.ensures.copied ∙ same_bad (first_bad c.args.trial.now.tried.config_map) c.in-Some.name.now name (ap (λ (config : AgentConfigMap). first_bad config.config_map) (sym c.tried-tried.ensures.tried) ∙ sym c.in-Some.ensures.bad) is)

pub returns-in-Some-clause-good_names : goal.returns-in-Some-clause-good_names
returns-in-Some-clause-good_names g c = λ name is. (ap (λ (config : AgentConfigMap). first_bad config.config_map) (sym c.tried-tried.ensures.tried) ∙ sym c.in-Some.ensures.bad) ∙ ap Some (sym c.in_ok-copy.ensures.copied ∙ same_ended _ name is)

pub returns-in-Some-clause-untouched : goal.returns-in-Some-clause-untouched
returns-in-Some-clause-untouched g c = λ name is. refl

pub returns-in-Some-clause-calls : goal.returns-in-Some-clause-calls
returns-in-Some-clause-calls g c = did_nothing _ _

pub returns-in-Some-clause-again : goal.returns-in-Some-clause-again
returns-in-Some-clause-again g c = λ is. bad_fault _ _ is

pub returns-in-Some-clause-fault : goal.returns-in-Some-clause-fault
returns-in-Some-clause-fault g c = λ settled is. bad_fault _ settled is

pub returns-in_err-copy-clause-applied : goal.returns-in_err-copy-clause-applied
returns-in_err-copy-clause-applied g c = λ is. err_ended c.from_residual.result _ c.from_residual.ensures.0 is

pub returns-in_err-copy-clause-names : goal.returns-in_err-copy-clause-names
returns-in_err-copy-clause-names g c = λ is. err_ended c.from_residual.result _ c.from_residual.ensures.0 is

pub returns-in_err-copy-clause-settled : goal.returns-in_err-copy-clause-settled
returns-in_err-copy-clause-settled g c = λ is. err_ended c.from_residual.result _ c.from_residual.ensures.0 is

pub returns-in_err-copy-clause-again : goal.returns-in_err-copy-clause-again
returns-in_err-copy-clause-again g c = λ is. err_ended c.from_residual.result _ c.from_residual.ensures.0 is

pub returns-in_err-copy-clause-fault : goal.returns-in_err-copy-clause-fault
returns-in_err-copy-clause-fault g c = λ of is. err_ended c.from_residual.result _ c.from_residual.ensures.0 is

pub returns-in_err-copy-clause-good_names : goal.returns-in_err-copy-clause-good_names
returns-in_err-copy-clause-good_names g c = λ of is. err_ended c.from_residual.result _ c.from_residual.ensures.0 is

pub returns-in_err-copy-clause-others : goal.returns-in_err-copy-clause-others
returns-in_err-copy-clause-others g c = λ other file apart. refl

pub returns-in_err-copy-clause-bad_name : goal.returns-in_err-copy-clause-bad_name
returns-in_err-copy-clause-bad_name g c = λ name is. IfOk-from_err _ _ c.from_residual.ensures.0

pub returns-in_err-copy-clause-untouched : goal.returns-in_err-copy-clause-untouched
returns-in_err-copy-clause-untouched g c = λ name is. refl

pub returns-in_err-copy-clause-calls : goal.returns-in_err-copy-clause-calls
returns-in_err-copy-clause-calls g c = wanted_nothing _ _ c.from_residual.ensures.0
