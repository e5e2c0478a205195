use denote.RattleType.{RattleType}
use denote.Param.Send.{IsSync, part_keyless}
use Rattle.orc_log.specs.contracts.ghost_list.GhostList.{the_row}
use Rattle.orc_log.proofs.ghost_list.GhostList.TheSendSync.Send.{send}

-- it owns nothing
pub sync : (T : RattleType) → IsSync (the_row T)
sync T = record { shared = λ d b o κ q. part_keyless (the_row T) (send T) q d b o }
