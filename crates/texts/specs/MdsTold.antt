-- What the lines by a release, and those beside an answer, tell.
use Rattle.std.specs.Prelude.{◌≡◌, ℕ, ◌<◌, ◌^◌, List, Option, IfSome}
use Rattle.capgrant.specs.declared.answer.Verdict.{Verdict as Answer}
use Rattle.capgrant.specs.Question.{Question}
use Rattle.release_rules.specs.declared.beside.Otherwise.{Otherwise}
use Rattle.release_rules.specs.declared.beside.Others.{Others}
use Rattle.release_rules.specs.declared.verdict.Verdict.{Verdict}
use Rattle.release_rules.specs.declared.verdict.Verdict.TheVariants.{Allowed, CannotMount, Denied, DependsOnAddress}
use Rattle.texts.specs.Explaining.{path_text}
use Rattle.texts.specs.Lines.{HasGrant, HasNumber}
use Rattle.texts.specs.declared.mds_asked.MdsAccess.{MdsAccess}
use Rattle.texts.specs.declared.mds_asked.MdsAccess.TheVariants.{Mask, One, ReadWrite}
use Rattle.texts.specs.Mds.{beside_text, mds_text}
use Rattle.texts.specs.Remarked.{AreLeftAlike}

-- the numbers of what is asked for have 32 bits
abbrev pub HasSmallNumbers : MdsAccess → Type 0
HasSmallNumbers (One access) = HasNumber access
HasSmallNumbers ReadWrite = Unit {0}
HasSmallNumbers (Mask bits uid gid) = (bits < 2 ^ 32) × (uid < 2 ^ 32) × (gid < 2 ^ 32)

-- its grant, if it has one, is counted by 64 bits
abbrev pub HasMdsGrant : Verdict → Type 0
HasMdsGrant CannotMount = Unit {0}
HasMdsGrant (Allowed grant) = grant < 2 ^ 64
HasMdsGrant (DependsOnAddress grant) = grant < 2 ^ 64
HasMdsGrant (Denied rules) = Unit {0}

-- the same of a refusal
abbrev pub HasRefusal : Option ℕ → Type 0
HasRefusal refused = IfSome refused (λ grant. grant < 2 ^ 64)

-- texts that are the same tell the same access, path, verdict and refusal; of paths the text counts
abbrev pub OneMdsText : Type 0
OneMdsText = (a b : MdsAccess) (p q : List (List ℕ)) (v w : Verdict) (refused also : Option ℕ) → HasSmallNumbers a → HasSmallNumbers b → HasMdsGrant v → HasMdsGrant w → HasRefusal refused → HasRefusal also
    → mds_text a p v refused ≡ mds_text b q w also → (a ≡ b) × (path_text p ≡ path_text q) × (v ≡ w) × (refused ≡ also)

-- ---- beside an answer

abbrev pub IsCounted : Option Otherwise → Type 0
IsCounted other = IfSome other (λ one. one.grant < 2 ^ 64)

abbrev pub AreCounted : Others → Type 0
AreCounted others = IsCounted others.pacific × IsCounted others.reef × IsCounted others.tentacle

-- the numbers fit
pub record AreBeside (q : Question) (v : Answer) (left : Option ℕ) (others : Others) : Type 0 where
  pub access : HasNumber q.access
  pub grant : HasGrant v
  pub owner : q.attr.uid < 2 ^ 32
  pub group : q.attr.gid < 2 ^ 32
  pub mode : q.attr.mode < 2 ^ 12
  pub to_client : IfSome left (λ grant. grant < 2 ^ 32)
  pub pacific : IsCounted others.pacific
  pub reef : IsCounted others.reef
  pub tentacle : IsCounted others.tentacle

-- texts that are the same tell the same answer, and of each release the same beside it; of paths the text counts
abbrev pub OneBeside : Type 0
OneBeside = (q r : Question) (v w : Answer) (left also : Option ℕ) (others further : Others) → AreBeside q v left others → AreBeside r w also further
    → beside_text q v left others ≡ beside_text r w also further
    → (q.access ≡ r.access) × (path_text q.path ≡ path_text r.path) × (v ≡ w) × AreLeftAlike q.attr left r.attr also × (others ≡ further)
