-- What is found in one list of grants.
use Rattle.std.specs.Prelude.{◌≡◌, ℕ, ◌+◌, ◌≤◌, Bool, true, false, ◌&&◌, ◌==◌, List, [], ◌∷◌, length, if◌then◌else◌}
use Rattle.std.specs.List.{list_any}
use Rattle.capspec.specs.declared.grant.Grant.{Grant}
use Rattle.capspec.specs.Items.{Item}
use Rattle.capspec.specs.Grants.{AreItemsOf}
use Rattle.capgrant.specs.declared.access.Access.TheVariants.{Read, Write}
use Rattle.capgrant.specs.declared.answer.Verdict.TheVariants.{Allowed}
use Rattle.capgrant.specs.Question.{Question, contains}
use Rattle.capgrant.specs.Verdict.{allows, granted, verdict_of}
use Rattle.policy_analysis.specs.declared.witness.Witness.{Witness}
use Rattle.policy_analysis.specs.Comparing.{Covers, question_of}
use Rattle.policy_analysis.specs.CephOrder.{IsInCephOrder}

-- ---- grants that the others cover

-- of the grants, the first with the number n, those whose number is none of these
abbrev pub left_from : ℕ → List ℕ → List Grant → List Grant
left_from n numbers [] = []
left_from n numbers (g ∷ grants) =
    if contains numbers n then left_from (n + 1) numbers grants else g ∷ left_from (n + 1) numbers grants

-- the grants that are left without those of these numbers, which count from 1
abbrev pub left : List ℕ → List Grant → List Grant
left numbers grants = left_from 1 numbers grants

-- The grants of these numbers can be left out, all of them at once: the others cover them. And no other can be left out beside them.
pub record AreRedundant (grants : List Grant) (numbers : List ℕ) : Type 0 where
  pub enough : Covers (left numbers grants) grants
  pub needed : (n : ℕ) → 1 ≤ n → n ≤ length grants → contains numbers n ≡ false → Covers (left (n ∷ numbers) grants) grants → ⊥

-- ---- grants that allow nothing

-- `.` and `..`, which no inode has for its name
abbrev pub is_dots : List ℕ → Bool
is_dots (a ∷ []) = a == 46
is_dots (a ∷ b ∷ []) = (a == 46) && (b == 46)
is_dots name = false

-- so no inode has such a path
abbrev pub has_dots : List (List ℕ) → Bool
has_dots path = list_any is_dots path

-- the grant allows nothing at any path that an inode can have
abbrev pub AllowsNothing : Grant → Type 0
AllowsNothing g = (q : Question) → has_dots q.path ≡ false → allows q g ≡ false

-- it allows somebody to read at such a path
abbrev pub AllowsReading : Grant → Type 0
AllowsReading g = (q : Question) × (has_dots q.path ≡ false) × (q.access ≡ Read) × (allows q g ≡ true)

-- ---- root_squash that another grant undoes

-- the same grant without root_squash
abbrev pub unsquashed : Grant → Grant
unsquashed g = record g { root_squash = false }

-- The grant denies this for root_squash alone, at a path that an inode can have.
pub record IsSquashed (g : Grant) (q : Question) : Type 0 where
  pub lies : has_dots q.path ≡ false
  pub denied : allows q g ≡ false
  pub but_for_it : allows q (unsquashed g) ≡ true

-- whatever the grant denies for root_squash alone, all the grants deny
abbrev pub KeepsSquash : List Grant → Grant → Type 0
KeepsSquash grants g = (q : Question) → IsSquashed g q → granted q grants ≡ false

-- The witness asks to write what the grant denies for root_squash alone, and the grants allow it, that of its number first.
pub record IsUndoing (grants : List Grant) (g : Grant) (w : Witness) : Type 0 where
  pub squashed : IsSquashed g (question_of w)
  pub writes : w.access ≡ Write
  pub allowed : verdict_of (question_of w) grants ≡ Allowed w.grant

-- ---- grants that Ceph 16 can't read

-- some items that say what the grant is stand in an order that Ceph 16 reads
abbrev pub HasCephText : Grant → Type 0
HasCephText g = (items : List Item) × IsInCephOrder items × AreItemsOf items g
