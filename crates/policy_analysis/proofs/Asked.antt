-- What the first grants that allow say of a question.
use Rattle.std.proofs.Common.{◌≡◌, ℕ, ◌<◌, Bool, true, false, not, ◌&&◌, Some, None, List, length, refl, sym}
use Rattle.std.specs.Prelude.{nat_lt, position}
use Rattle.std.specs.List.{position_or_len}
use Rattle.std.proofs.lemmas.Bool.{and_left, and_right, ltb-true, not_from_true}
use Rattle.std.proofs.lemmas.Option.{cond_some}
use Rattle.capbits.specs.declared.caller.Caller.{Caller}
use Rattle.capgrant.specs.declared.access.Access.{Access}
use Rattle.capgrant.specs.declared.access.Attr.{Attr}
use Rattle.capgrant.specs.Question.{Question}
use Rattle.capgrant.specs.Verdict.{allows, granted}
use Rattle.capgrant.proofs.Verdicts.{granted_nowhere, granted_somewhere}
use Rattle.policy_analysis.specs.Comparing.{is_root}
use Rattle.policy_analysis.specs.Asking.{IsFound, Setting, asked, is_gained, is_wanted}

pub not_allowed : (s : Setting) (q : Question) → position (allows q) s.new ≡ None → is_gained s q ≡ false
not_allowed s q nowhere = and_right (is_wanted s.accesses q.access) (granted q s.new && not (granted q s.old)) (and_left (granted q s.new) (not (granted q s.old)) (sym (granted_nowhere q s.new nowhere)))

pub allowed_before : (s : Setting) (q : Question) (place : ℕ) → position (allows q) s.old ≡ Some place → is_gained s q ≡ false
allowed_before s q place somewhere =
    and_right (is_wanted s.accesses q.access) (granted q s.new && not (granted q s.old))
    (and_right (granted q s.new) (not (granted q s.old)) (not_from_true (granted q s.old) (sym (granted_somewhere q s.old place somewhere))))

pub not_wanted : (s : Setting) (q : Question) → is_wanted s.accesses q.access ≡ false → is_gained s q ≡ false
not_wanted s q out = and_left (is_wanted s.accesses q.access) (granted q s.new && not (granted q s.old)) out

-- a place is within the list
pub place_within : {X : Type 0} (p : X → Bool) (xs : List X) (place : ℕ) → position p xs ≡ Some place → place < length xs
place_within p xs place is =
    let parts = cond_some (nat_lt (position_or_len p xs) (length xs)) (position_or_len p xs) place is in
    rw (← parts.1) (ltb-true (position_or_len p xs) (length xs) parts.0)

pub as_found : (s : Setting) (caller : Caller) (attr : Attr) (access : Access) (place : ℕ) → is_wanted s.accesses access ≡ true → position (allows (asked s caller attr access)) s.new ≡ Some place → position (allows (asked s caller attr access)) s.old ≡ None → IsFound s (is_root caller) (record { caller = caller; attr = attr; access = access; place = place })
as_found s caller attr access place wanted somewhere nowhere = record {
  asker = refl;
  wanted = wanted;
  within = place_within (allows (asked s caller attr access)) s.new place somewhere;
  allowed = somewhere;
  denied = sym (granted_nowhere (asked s caller attr access) s.old nowhere);
}
