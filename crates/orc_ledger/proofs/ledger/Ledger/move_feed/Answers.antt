use Rattle.orc_rules.specs.Nodes.{code}
use Rattle.orc_frames.specs.declared.action.Action.TheVariants.{Seq}
use Rattle.std.proofs.lemmas.Result.{err_from_is_err_and}
use Rattle.orc_ledger_spec.proofs.Advancing.{word-seq, moves-by, hindered-by}
use Rattle.orc_ledger.proofs.ledger.Ledger.move_feed.Goals as goal

pub returns-clause-done : goal.returns-clause-done
returns-clause-done g c ks =
    let l = g.P.Run.listing in
    let a = c.args in
    moves-by l a.self.now a.token a.slot _ _ ks Seq (word-seq l a.self.now a.token a.scope (code l a.left) a.name (code l a.right) c.requires.at) (record { scope = a.scope; left = a.left; name = a.name; right = a.right; at = c.requires.at; done = c.in_ok-feed.ensures.done; held = c.in_ok-feed.ensures.left })

pub returns-in_err-feed-clause-why : goal.returns-in_err-feed-clause-why
returns-in_err-feed-clause-why g c =
    let l = g.P.Run.listing in
    let a = c.args in
    let p = err_from_is_err_and c.from_residual.result c.from_residual.ensures.1 in
    rw (p.1, p.2) (hindered-by l a.self.now a.token _ Seq (word-seq l a.self.now a.token a.scope (code l a.left) a.name (code l a.right) c.requires.at) c.in_err-feed.ensures.why)
