use Rattle.orc_checker.proofs.Answering.{for_all, for_sites, for_code, for_tables, for_terms}
use Rattle.orc_checker.proofs.Refusing.{err_map, refused_so}
use Rattle.orc_checker.proofs.marked.Marked.step.Goals as goal

pub returns-in-End-clause-done : goal.returns-in-End-clause-done
returns-in-End-clause-done c = for_all c.args.program.now c.args.answers.now _ _ c.args.self.now c.end.new.self c.end.result c.in-End.is c.end.ensures.done

pub returns-in-Fork-clause-done : goal.returns-in-Fork-clause-done
returns-in-Fork-clause-done c = for_all c.args.program.now c.args.answers.now _ _ c.args.self.now c.fork.new.self c.fork.result c.in-Fork.is c.fork.ensures.done

pub returns-in-Seq-clause-done : goal.returns-in-Seq-clause-done
returns-in-Seq-clause-done c = for_all c.args.program.now c.args.answers.now _ _ c.args.self.now c.seq.new.self c.seq.result c.in-Seq.is c.seq.ensures.done

pub returns-in-Other-clause-done : goal.returns-in-Other-clause-done
returns-in-Other-clause-done c = for_all c.args.program.now c.args.answers.now _ _ c.args.self.now c.other.new.self c.other.result c.in-Other.is c.other.ensures.done

pub returns-in-Publish-clause-done : goal.returns-in-Publish-clause-done
returns-in-Publish-clause-done c = for_all c.args.program.now c.args.answers.now _ _ c.args.self.now c.publish.new.self c.publish.result c.in-Publish.is c.publish.ensures.done

pub returns-in-Open-clause-done : goal.returns-in-Open-clause-done
returns-in-Open-clause-done c = for_all c.args.program.now c.args.answers.now _ _ c.args.self.now c.open.new.self c.open.result c.in-Open.is c.open.ensures.done

pub returns-in-Send-clause-done : goal.returns-in-Send-clause-done
returns-in-Send-clause-done c = for_all c.args.program.now c.args.answers.now _ _ c.args.self.now c.send.new.self c.send.result c.in-Send.is c.send.ensures.done

pub returns-in-Cancel-clause-done : goal.returns-in-Cancel-clause-done
returns-in-Cancel-clause-done c = for_all c.args.program.now c.args.answers.now _ _ c.args.self.now c.cancel.new.self c.cancel.result c.in-Cancel.is c.cancel.ensures.done

pub returns-in-Call-clause-done : goal.returns-in-Call-clause-done
returns-in-Call-clause-done c = for_sites c.args.program.now c.args.answers.now _ _ c.args.self.now c.call.new.self c.call.result c.in-Call.is c.call.ensures.done

pub returns-in-Return-clause-done : goal.returns-in-Return-clause-done
returns-in-Return-clause-done c = for_code c.args.program.now c.args.answers.now _ _ c.args.self.now c.return_value.new.self c.return_value.result c.in-Return.is c.return_value.ensures.done

pub returns-in-ReturnHalt-clause-done : goal.returns-in-ReturnHalt-clause-done
returns-in-ReturnHalt-clause-done c = for_code c.args.program.now c.args.answers.now _ _ c.args.self.now c.return_halt.new.self c.return_halt.result c.in-ReturnHalt.is c.return_halt.ensures.done

pub returns-in-Bind-clause-done : goal.returns-in-Bind-clause-done
returns-in-Bind-clause-done c = for_tables c.args.program.now c.args.answers.now _ _ c.args.self.now c.bind.new.self c.bind.result c.in-Bind.is c.bind.ensures.done

pub returns-in-Tick-clause-done : goal.returns-in-Tick-clause-done
returns-in-Tick-clause-done c = for_tables c.args.program.now c.args.answers.now _ _ c.args.self.now c.tick.new.self c.tick.result c.in-Tick.is c.tick.ensures.done

pub returns-in-Void-clause-done : goal.returns-in-Void-clause-done
returns-in-Void-clause-done c = for_all c.args.program.now c.args.answers.now _ _ c.args.self.now c.void.new.self c.void.result c.in-Void.is c.void.ensures.done

pub returns-in-Right-clause-done : goal.returns-in-Right-clause-done
returns-in-Right-clause-done c = for_terms c.args.program.now c.args.answers.now _ _ c.args.self.now c.right.new.self c.right.result c.in-Right.is c.right.ensures.done

pub returns-in-Lost-clause-done : goal.returns-in-Lost-clause-done
returns-in-Lost-clause-done c = for_tables c.args.program.now c.args.answers.now _ _ c.args.self.now c.lost.new.self c.lost.result c.in-Lost.is c.lost.ensures.done

pub returns-in-Def-clause-done : goal.returns-in-Def-clause-done
returns-in-Def-clause-done c = for_tables c.args.program.now c.args.answers.now _ _ c.args.self.now c.def.new.self c.def.result c.in-Def.is c.def.ensures.done

pub returns-in-End-clause-reason : goal.returns-in-End-clause-reason
returns-in-End-clause-reason c = let a = c.args in refused_so a.program.now a.answers.now _ _ a.self.now c.end.result c.in-End.is (err_map c.end.result (λ why h presumed. h a.answers.now) c.end.ensures.reason)

pub returns-in-Fork-clause-reason : goal.returns-in-Fork-clause-reason
returns-in-Fork-clause-reason c = let a = c.args in refused_so a.program.now a.answers.now _ _ a.self.now c.fork.result c.in-Fork.is (err_map c.fork.result (λ why h presumed. h a.answers.now) c.fork.ensures.reason)

pub returns-in-Seq-clause-reason : goal.returns-in-Seq-clause-reason
returns-in-Seq-clause-reason c = let a = c.args in refused_so a.program.now a.answers.now _ _ a.self.now c.seq.result c.in-Seq.is (err_map c.seq.result (λ why h presumed. h a.answers.now) c.seq.ensures.reason)

pub returns-in-Other-clause-reason : goal.returns-in-Other-clause-reason
returns-in-Other-clause-reason c = let a = c.args in refused_so a.program.now a.answers.now _ _ a.self.now c.other.result c.in-Other.is (err_map c.other.result (λ why h presumed. h a.answers.now) c.other.ensures.reason)

pub returns-in-Open-clause-reason : goal.returns-in-Open-clause-reason
returns-in-Open-clause-reason c = let a = c.args in refused_so a.program.now a.answers.now _ _ a.self.now c.open.result c.in-Open.is (err_map c.open.result (λ why h presumed. h a.answers.now) c.open.ensures.reason)

pub returns-in-Cancel-clause-reason : goal.returns-in-Cancel-clause-reason
returns-in-Cancel-clause-reason c = let a = c.args in refused_so a.program.now a.answers.now _ _ a.self.now c.cancel.result c.in-Cancel.is (err_map c.cancel.result (λ why h presumed. h a.answers.now) c.cancel.ensures.reason)

pub returns-in-Return-clause-reason : goal.returns-in-Return-clause-reason
returns-in-Return-clause-reason c = let a = c.args in refused_so a.program.now a.answers.now _ _ a.self.now c.return_value.result c.in-Return.is (err_map c.return_value.result (λ why h presumed. h a.program.now) c.return_value.ensures.reason)

pub returns-in-ReturnHalt-clause-reason : goal.returns-in-ReturnHalt-clause-reason
returns-in-ReturnHalt-clause-reason c = let a = c.args in refused_so a.program.now a.answers.now _ _ a.self.now c.return_halt.result c.in-ReturnHalt.is (err_map c.return_halt.result (λ why h presumed. h a.program.now) c.return_halt.ensures.reason)

pub returns-in-Tick-clause-reason : goal.returns-in-Tick-clause-reason
returns-in-Tick-clause-reason c = let a = c.args in refused_so a.program.now a.answers.now _ _ a.self.now c.tick.result c.in-Tick.is (err_map c.tick.result (λ why h presumed. h a.answers.now) c.tick.ensures.reason)

pub returns-in-Right-clause-reason : goal.returns-in-Right-clause-reason
returns-in-Right-clause-reason c = let a = c.args in refused_so a.program.now a.answers.now _ _ a.self.now c.right.result c.in-Right.is (err_map c.right.result (λ why h presumed. h a.program.now a.answers.now) c.right.ensures.reason)

pub returns-in-Lost-clause-reason : goal.returns-in-Lost-clause-reason
returns-in-Lost-clause-reason c = let a = c.args in refused_so a.program.now a.answers.now _ _ a.self.now c.lost.result c.in-Lost.is (err_map c.lost.result (λ why h presumed. h a.answers.now) c.lost.ensures.reason)

pub returns-in-Def-clause-reason : goal.returns-in-Def-clause-reason
returns-in-Def-clause-reason c = let a = c.args in refused_so a.program.now a.answers.now _ _ a.self.now c.def.result c.in-Def.is (err_map c.def.result (λ why h. h a.answers.now) c.def.ensures.reason)

pub returns-in-Void-clause-reason : goal.returns-in-Void-clause-reason
returns-in-Void-clause-reason c = let a = c.args in refused_so a.program.now a.answers.now _ _ a.self.now c.void.result c.in-Void.is (err_map c.void.result (λ why h presumed. h a.answers.now) c.void.ensures.reason)

pub returns-in-Send-clause-reason : goal.returns-in-Send-clause-reason
returns-in-Send-clause-reason c = let a = c.args in refused_so a.program.now a.answers.now _ _ a.self.now c.send.result c.in-Send.is (err_map c.send.result (λ why h presumed. h a.answers.now) c.send.ensures.reason)

pub returns-in-Call-clause-reason : goal.returns-in-Call-clause-reason
returns-in-Call-clause-reason c = let a = c.args in refused_so a.program.now a.answers.now _ _ a.self.now c.call.result c.in-Call.is (err_map c.call.result (λ why h presumed. h) c.call.ensures.reason)

pub returns-in-Bind-clause-reason : goal.returns-in-Bind-clause-reason
returns-in-Bind-clause-reason c = let a = c.args in refused_so a.program.now a.answers.now _ _ a.self.now c.bind.result c.in-Bind.is (err_map c.bind.result (λ why h presumed. h a.answers.now) c.bind.ensures.reason)

pub returns-in-Publish-clause-reason : goal.returns-in-Publish-clause-reason
returns-in-Publish-clause-reason c = let a = c.args in refused_so a.program.now a.answers.now _ _ a.self.now c.publish.result c.in-Publish.is (err_map c.publish.result (λ why h presumed. h a.answers.now) c.publish.ensures.reason)
