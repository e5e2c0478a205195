use Rattle.std.proofs.Common.{◌≤◌, ap, arith, decimal, drop, length, length-append, length-drop, rules}
use Rattle.std.proofs.lemmas.Fmt.{length-decimal-le}
use Rattle.orc_journal_text.proofs.tail.Tail.put_digits.Goals as goal

pub write_digits-self-inside-requires : goal.write_digits-self-inside-requires
write_digits-self-inside-requires c =
    let long : length (decimal c.args.n) ≤ 20 = length-decimal-le 20 c.args.n (omega arith) (omega arith) c.ranges.n.fits in
    (omega (arith, long, ap length c.self.view_is, length-drop c.self.inside.start c.self.inside.room), search rules)

pub returns-clause-few : goal.returns-clause-few
returns-clause-few c =
    let long : length (decimal c.args.n) ≤ 20 = length-decimal-le 20 c.args.n (omega arith) (omega arith) c.ranges.n.fits in
    let called = c.write_digits-self-inside in
    omega (arith, long, ap length called.ensures.written, length-append (decimal c.args.n) (drop c.self.inside.start c.self.inside.room), ap length c.self.view_is)
