-- What one list of grants allows and another denies.
use Rattle.std.specs.Prelude.{◌≡◌, Bool, true, false, ◌||◌, ◌==◌, List}
use Rattle.capbits.specs.declared.caller.Caller.{Caller}
use Rattle.capspec.specs.declared.grant.Grant.{Grant}
use Rattle.capgrant.specs.declared.answer.Verdict.TheVariants.{Allowed}
use Rattle.capgrant.specs.Question.{Question, question}
use Rattle.capgrant.specs.Verdict.{granted, verdict_of}
use Rattle.policy_analysis.specs.declared.witness.Witness.{Witness}

-- every question that the new grants allow the old grants allow too
abbrev pub Covers : List Grant → List Grant → Type 0
Covers old new = (q : Question) → granted q new ≡ true → granted q old ≡ true

-- the same of every question whose caller does not pass the test
abbrev pub CoversBut : (Caller → Bool) → List Grant → List Grant → Type 0
CoversBut test old new = (q : Question) → test q.caller ≡ false → granted q new ≡ true → granted q old ≡ true

-- root by uid or by its first gid, as for root_squash
abbrev pub is_root : Caller → Bool
is_root caller = (caller.uid == 0) || (caller.gid == 0)

-- what a witness asks
abbrev pub question_of : Witness → Question
question_of w = question w.fs w.caller w.path.now w.attr w.access

-- its question is one that the new grants allow, the grant of its number first, and the old ones deny
pub record IsWitness (old new : List Grant) (w : Witness) : Type 0 where
  pub allowed : verdict_of (question_of w) new ≡ Allowed w.grant
  pub denied : granted (question_of w) old ≡ false
