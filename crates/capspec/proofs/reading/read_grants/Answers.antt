use Rattle.std.proofs.Common.{sym, ◌∙◌, inl}
use Rattle.std.proofs.lemmas.List.{nil_from_length}
use Rattle.capspec.specs.Faults.{IsFault}
use Rattle.capspec.proofs.Granting.{IsAnswered, all_kept, empty_fault, first_within, grant_fault, has_more_grants, many_fault, only_fault, only_read, reads_grants, rest_within}
use Rattle.capspec.proofs.reading.read_grants.Goals as goal

pub from_gathered-requires : goal.from_gathered-requires
from_gathered-requires c =
    all_kept c.args.text.now c.loop.rest.now c.in-Ok.found.1.now c.loop.counter c.loop.grants c.gather-grants.result c.in-Ok.found.0 c.loop.invariant c.in-Ok.ensures.ok (nil_from_length _ c.in-None.ensures.cases) c.loop-test.true c.gather-grants.ensures

-- a text of white space alone

is_empty-fault : (c : goal.After-in_text) → IsFault c.args.text.now c.in_text.result
is_empty-fault c = empty_fault c.args.text.now _ c.split_while.result.1.now _ c.at.result c.split_while.ensures (sym c.is_empty.ensures ∙ c.if-is_empty.true) c.at.ensures c.in_text.ensures

pub returns-then-is_empty-clause-only : goal.returns-then-is_empty-clause-only
returns-then-is_empty-clause-only c = only_fault c.args.text.now _ (inl (is_empty-fault c))

pub returns-then-is_empty-clause-fault : goal.returns-then-is_empty-clause-fault
returns-then-is_empty-clause-fault c = inl (is_empty-fault c)

-- a wrong grant

in-Err-fault : (c : goal.Joined-grants) → IsFault c.args.text.now c.in_text-in-Err.result
in-Err-fault c =
    grant_fault c.args.text.now _ c.split_while.result.1.now c.loop.rest.now c.loop.counter c.loop.grants _ c.in-Err.refusal c.split_while.ensures (sym c.is_empty.ensures ∙ c.if-is_empty.false) c.loop.invariant
    (c.in-Err.ensures.err c.loop.counter c.loop-test.true) c.in_text-in-Err.ensures

pub returns-in-Err-clause-only : goal.returns-in-Err-clause-only
returns-in-Err-clause-only c = only_fault c.args.text.now _ (inl (in-Err-fault c))

pub returns-in-Err-clause-fault : goal.returns-in-Err-clause-fault
returns-in-Err-clause-fault c = inl (in-Err-fault c)

-- all grants

pub returns-in-None : goal.returns-in-None
returns-in-None c =
    let answered : IsAnswered c.args.text.now c.from_gathered.result = reads_grants c.args.text.now c.loop.rest.now c.in-Ok.found.1.now c.loop.counter c.loop.grants c.gather-grants.result c.in-Ok.found.0 c.from_gathered.result c.loop.invariant c.in-Ok.ensures.ok
    (nil_from_length _ c.in-None.ensures.cases) c.loop-test.true c.gather-grants.ensures c.from_gathered.ensures in
    record { ok = answered.ok; only = only_read c.args.text.now c.from_gathered.result answered.ok answered.fault; fault = answered.fault }

-- a seventeenth grant

many-fault : (c : goal.Joined-grants-2) → IsFault c.args.text.now c.in_text-2.result
many-fault c =
    many_fault c.args.text.now _ c.split_while.result.1.now c.loop.rest.now _ c.split_while-2.result.1.now c.loop.counter c.loop.grants _ c.at-2.result c.split_while.ensures (sym c.is_empty.ensures ∙ c.if-is_empty.false) c.loop.invariant
    c.loop-test.false c.split_while-2.ensures c.at-2.ensures c.in_text-2.ensures

pub returns-clause-only : goal.returns-clause-only
returns-clause-only c = only_fault c.args.text.now _ (inl (many-fault c))

pub returns-clause-fault : goal.returns-clause-fault
returns-clause-fault c = inl (many-fault c)

pub loop-preserved : goal.loop-preserved
loop-preserved c =
    has_more_grants c.args.text.now c.loop.rest.now c.in-Ok.found.1.now c.in-Some.more.now c.in-Some.field-0-0.now c.loop.counter c.loop.grants c.gather-grants.result c.in-Ok.found.0 c.loop.invariant c.in-Ok.ensures.ok
    c.in-Some.ensures.cases.0 c.loop-test.true c.gather-grants.ensures

-- where each fault stands

pub in_text-requires : goal.in_text-requires
in_text-requires c = first_within c.args.text.now _ _ _ c.at.result c.split_while.ensures c.at.ensures

pub in_text-requires-in-Err : goal.in_text-requires-in-Err
in_text-requires-in-Err c = rest_within c.args.text.now c.loop.rest.now c.loop.counter c.loop.grants c.in-Err.refusal.left c.loop.invariant c.in-Err.ensures.within

pub in_text-requires-2 : goal.in_text-requires-2
in_text-requires-2 c =
    rest_within c.args.text.now c.loop.rest.now c.loop.counter c.loop.grants c.at-2.result.left c.loop.invariant (first_within c.loop.rest.now _ _ _ c.at-2.result c.split_while-2.ensures c.at-2.ensures)
