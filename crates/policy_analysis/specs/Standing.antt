-- What the grants of a client say to what somebody behind its key wants to do.
use Rattle.std.specs.Prelude.{◌≡◌, ℕ, ◌+◌, Bool, ◌&&◌, Option, Some, None, is_none, List, ◌∷◌, ◌++◌, length, filter_map, All}
use Rattle.capspec.specs.declared.grant.Grant.{Grant}
use Rattle.capgrant.specs.declared.access.Attr.{Attr}
use Rattle.capgrant.specs.declared.rule.Rule.{Rule}
use Rattle.capgrant.specs.Failing.{first_failing}
use Rattle.policy_analysis.specs.declared.standing.Standing.{Standing}
use Rattle.policy_analysis.specs.declared.standing.Standing.TheVariants.{Allowed, Denied, Depends}
use Rattle.policy_analysis.specs.Callers.{AllowsNone, AllowsSome, Wanted, allows_one, asked, asker, user_of}

-- of these grants the first that does something has this number, from 1; each before it does not
pub record IsFirst (Does Not : Grant → Type 0) (grants : List Grant) (number : ℕ) : Type 0 where
  pub before : List Grant
  pub grant : Grant
  pub after : List Grant
  pub order : grants ≡ before ++ grant ∷ after
  pub counted : number ≡ length before + 1
  pub does : Does grant
  pub others : All Not before

-- ---- why not

-- an inode of the grant's own user, with all mode bits: what the grant allows of any inode it allows of this one
abbrev pub own_attr : Grant → Attr
own_attr g = record { uid = user_of g; gid = 0; mode = 0o777 }

-- the owner, the group and the mode where a grant is asked: those that are known, else those of its own user's inode
abbrev pub attr_for : Option Attr → Grant → Attr
attr_for (Some attr) g = attr
attr_for None g = own_attr g

-- the first rule by which a grant denies it to its own user, who is in all of the groups that it lists
abbrev pub reason : Wanted → Attr → Grant → Option Rule
reason w attr g = first_failing (asked w attr (asker attr g g.gids)) g

-- the rules are these, one for each grant
pub record AreReasons (w : Wanted) (attr : Option Attr) (grants : List Grant) (rules : List Rule) : Type 0 where
  pub exact : rules ≡ filter_map (λ g. reason w (attr_for attr g) g) grants
  pub one_each : length rules ≡ length grants

-- ---- of an inode whose owner, group and mode are known

abbrev pub AnswersOf : Wanted → Attr → List Grant → Standing → Type 0
AnswersOf w attr grants (Allowed number) = IsFirst (AllowsSome w attr) (AllowsNone w attr) grants number
AnswersOf w attr grants (Depends number) = ⊥
AnswersOf w attr grants (Denied rules) = All (AllowsNone w attr) grants × AreReasons w (Some attr) grants rules

-- ---- of one of which nothing is known

-- the grant allows it to somebody whatever the owner, the group and the mode are; it does not for some of them
abbrev pub AllowsAnyway : Wanted → Grant → Type 0
AllowsAnyway w g = (attr : Attr) → AllowsSome w attr g

abbrev pub NotAnyway : Wanted → Grant → Type 0
NotAnyway w g = (attr : Attr) × AllowsNone w attr g

-- it allows it to somebody for some of them; it never does
abbrev pub AllowsSomehow : Wanted → Grant → Type 0
AllowsSomehow w g = (attr : Attr) × AllowsSome w attr g

abbrev pub NeverAllows : Wanted → Grant → Type 0
NeverAllows w g = (attr : Attr) → AllowsNone w attr g

-- for some of them nobody may
abbrev pub NobodySomehow : Wanted → List Grant → Type 0
NobodySomehow w grants = (attr : Attr) × All (AllowsNone w attr) grants

abbrev pub AnswersOfAny : Wanted → List Grant → Standing → Type 0
AnswersOfAny w grants (Allowed number) = IsFirst (AllowsAnyway w) (NotAnyway w) grants number
AnswersOfAny w grants (Depends number) = IsFirst (AllowsSomehow w) (NeverAllows w) grants number × NobodySomehow w grants
AnswersOfAny w grants (Denied rules) = All (NeverAllows w) grants × AreReasons w None grants rules

-- ---- of either

abbrev pub Answers : Wanted → Option Attr → List Grant → Standing → Type 0
Answers w (Some attr) grants standing = AnswersOf w attr grants standing
Answers w None grants standing = AnswersOfAny w grants standing

-- ---- as the code asks

-- the grant allows it to one of those who are asked
abbrev pub allows_here : Wanted → Option Attr → Grant → Bool
allows_here w attr g = allows_one w (attr_for attr g) g

-- the same of a grant that looks at no owner, group or mode
abbrev pub allows_anyway : Wanted → Grant → Bool
allows_anyway w g = is_none g.uid && allows_one w (own_attr g) g
