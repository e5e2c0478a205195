-- What the reader's values stand for.
use Rattle.std.specs.Prelude.{List, map}
use Rattle.std.specs.Global.{Vec}
use Rattle.orc_claims.specs.declared.claim.Simple.{Simple as CodeSimple}
use Rattle.orc_claims.specs.declared.claim.Simple.TheVariants as simples
use Rattle.orc_claims.specs.declared.claim.Event.{Event as CodeEvent}
use Rattle.orc_claims.specs.declared.claim.Condition.{Condition as CodeCondition}
use Rattle.orc_claims.specs.declared.claim.Plain.{Plain as CodePlain}
use Rattle.orc_claims.specs.declared.claim.Plain.TheVariants as plains
use Rattle.orc_claims.specs.declared.claim.Claim.{Claim as CodeClaim}
use Rattle.orc_site.specs.Values.{token_of as script_token_of}
use Rattle.orc_ways.specs.declared.test.Reply.{Reply}
use Rattle.orc_ways.specs.declared.test.SiteName.{SiteName}
use Rattle.orc_ways.specs.declared.test.Service.{Service as CodeService}
use Rattle.orc_ways.specs.declared.token.Token.{Token as CodeToken}
use Rattle.orc_ways.specs.declared.token.Token.TheVariants as tokens
use Rattle.orc_ways.specs.Tokens.{Token, plain, bar, dots}
use Rattle.orc_ways.specs.Claims.{Simple, call, published, Event, Condition, Plain, count, at_once, only_after, none_after, each_then, ends, in_order, in_any_order, one_of, Claim, Site}
use Rattle.orc_ways.specs.Lines.{History, Service}

abbrev pub token_of : CodeToken → Token
token_of (tokens.Plain t) = plain (script_token_of t)
token_of tokens.Bar = bar
token_of tokens.Dots = dots

abbrev pub tokens_of : List CodeToken → List Token
tokens_of ts = map token_of ts

abbrev pub site_of : SiteName → Site
site_of s = record { name = s.name.now; arguments = s.arguments; line = s.line }

abbrev pub sites_of : List SiteName → List Site
sites_of ss = map site_of ss

abbrev pub simple_of : CodeSimple → Simple
simple_of (simples.Call m slots w) = call m slots.items w
simple_of (simples.Published s) = published s

abbrev pub simples_of : List CodeSimple → Event
simples_of ss = map simple_of ss

abbrev pub event_of : CodeEvent → Event
event_of e = simples_of e.alternatives.items

abbrev pub condition_of : CodeCondition → Condition
condition_of c = record { event = event_of c.event; happens = c.happens }

abbrev pub conditions_of : List CodeCondition → List Condition
conditions_of cs = map condition_of cs

abbrev pub plain_of : CodePlain → Plain
plain_of (plains.Count e low most by) = count (event_of e) low most by
plain_of (plains.AtOnce e most) = at_once (event_of e) most
plain_of (plains.OnlyAfter e f) = only_after (event_of e) (event_of f)
plain_of (plains.NoneAfter e f) = none_after (event_of e) (event_of f)
plain_of (plains.EachThen e f within) = each_then (event_of e) (event_of f) within
plain_of (plains.Ends halted quiet by) = ends halted quiet by
plain_of (plains.InOrder ps) = in_order ps.items
plain_of (plains.InAnyOrder vs) = in_any_order vs.items
plain_of (plains.OneOf vs) = one_of vs.items

abbrev pub claim_of : CodeClaim → Claim
claim_of c = record { conditions = conditions_of c.conditions.items; plain = plain_of c.plain }

abbrev pub histories_of : List (Vec Reply) → List History
histories_of hs = map (λ h. h.items) hs

abbrev pub service_of : CodeService → Service
service_of s = record { name = s.name.now; patterns = s.patterns.items; alternatives = histories_of s.alternatives.items; calls = s.calls }
