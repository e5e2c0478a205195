-- What was found is the case, which is within the limit or isn't.
use Rattle.orc_cases.proofs.Cases.{counted, none_of, some_of}
use Rattle.orc_cases.proofs.ways.Ways.of_case.Goals as goal

pub returns-then-size-gt-MOST_WAYS : goal.returns-then-size-gt-MOST_WAYS
returns-then-size-gt-MOST_WAYS c = none_of c.args.test.now c.args.case c.as_slice-services.result.now c.in_ok-found.found.items c.as_slice-places.result.now c.ways_size-size.result c.as_slice-services.ensures.value c.in_ok-found.ensures c.as_slice-places.ensures.value c.ways_size-size.ensures c.if-size-gt-MOST_WAYS.true

pub of_places-requires : goal.of_places-requires
of_places-requires c = counted c.args.test.now c.args.case c.as_slice-services.result.now c.in_ok-found.found.items c.as_slice-places.result.now c.ways_size-size.result c.as_slice-services.ensures.value c.in_ok-found.ensures c.as_slice-places.ensures.value c.ways_size-size.ensures c.if-size-gt-MOST_WAYS.false

pub returns : goal.returns
returns c = some_of c.args.test.now c.args.case c.as_slice-services.result.now c.in_ok-found.found.items c.as_slice-places.result.now c.ways_size-size.result c.as_slice-services.ensures.value c.in_ok-found.ensures c.as_slice-places.ensures.value c.ways_size-size.ensures c.if-size-gt-MOST_WAYS.false c.in_ok-ways.ways c.in_ok-ways.ensures
