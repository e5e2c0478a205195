use Rattle.orc_pool.proofs.Histories.{admits}
use Rattle.orc_pool.proofs.theft.Theft.by.Goals as goal

pub pass-pass-requires : goal.pass-pass-requires
pass-pass-requires g c = admits
