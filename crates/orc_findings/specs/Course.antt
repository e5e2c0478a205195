-- Where in a run a claim fails.
use Rattle.std.specs.Prelude.{ℕ, List, ◌++◌, Option, Some, None, true, codes, decimal}
use Rattle.std.specs.List.{slice_get}
use Rattle.orc_outcome.specs.declared.end.End.{End}
use Rattle.orc_outcome.specs.declared.end.End.TheVariants as ends
use Rattle.orc_claims.specs.declared.happening.Happening.{Happening}
use Rattle.orc_claims.specs.declared.verdict.Verdict.{Verdict}
use Rattle.orc_claims.specs.declared.verdict.Verdict.TheVariants as verdict
use Rattle.orc_ways.specs.declared.test.SiteName.{SiteName}
use Rattle.orc_findings.specs.Texts.{happening_text, published_from}
use Rattle.orc_findings.specs.declared.course.Standing.{Standing}
use Rattle.orc_findings.specs.declared.course.Standing.TheVariants as standing

-- what an end is called
abbrev pub end_word : End → List ℕ
end_word ends.Halted = codes "Halted"
end_word ends.Quiet = codes "Quiet"
end_word ends.Limit = codes "cut by the limit"
end_word ends.Full = codes "Full"
end_word ends.Memory = codes "without memory"

-- how the run stands
abbrev pub standing_text : Standing → List ℕ
standing_text (standing.Ended e) = codes "ended " ++ end_word e
standing_text standing.Running = codes "not ended"

-- how the run stands at the end, and what it published
abbrev pub end_text : Standing → List Happening → ℕ → List ℕ
end_text s hs now = standing_text s ++ (codes " at time " ++ (decimal now ++ (codes ", having published" ++ published_from true hs)))

-- a happening and its time
abbrev pub moment_text : List SiteName → Happening → List ℕ
moment_text ss h = codes "time " ++ (decimal h.time ++ (codes ": " ++ happening_text ss h.what))

-- the happening at which the claim fails, or the end if there is no such happening
abbrev pub at_text : List SiteName → Standing → List Happening → ℕ → Option Happening → List ℕ
at_text ss s hs now (Some h) = moment_text ss h
at_text ss s hs now None = end_text s hs now

-- or the end, where it fails there
abbrev pub place_text : List SiteName → Standing → List Happening → ℕ → Verdict → List ℕ
place_text ss s hs now (verdict.FailsAt at) = at_text ss s hs now (slice_get hs at)
place_text ss s hs now _ = end_text s hs now
