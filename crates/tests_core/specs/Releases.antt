-- What Ceph 16, 18 and 20 make of grants.
use Rattle.std.specs.Prelude.{ℕ, Option, None, List, [], ◌∷◌, Result, Ok, Err, codes, length, map}
use Rattle.capgrant.specs.declared.access.Access.TheVariants.{Read, Write}
use Rattle.release_rules.specs.Asked.{asked_for}
use Rattle.release_rules.specs.Clients.{client_refuses}
use Rattle.release_rules.specs.Question.{Question}
use Rattle.release_grants.specs.Reading.{read_of}
use Rattle.release_rules.specs.Releases.{switches_of}
use Rattle.release_rules.specs.Verdicts.{verdict_of}
use Rattle.release_grants.specs.declared.grant.Grant.{Grant}
use Rattle.release_grants.specs.declared.reading.Unread.{Unread}
use Rattle.release_rules.specs.declared.release.Release.TheVariants.{Pacific, Reef, Tentacle}
use Rattle.release_grants.specs.declared.switches.Switches.{Switches}
use Rattle.release_rules.specs.declared.verdict.Verdict.{Verdict}
use Rattle.release_rules.specs.declared.verdict.Verdict.TheVariants.{Allowed, CannotMount, Denied, DependsOnAddress}
use Rattle.tests_core.specs.Verdicts.{caller, owned}

-- by the switches of each of the three, the oldest first
abbrev pub by_each : {A : Type 0} → (Switches → A) → List A
by_each answer = map (λ release. answer (switches_of release)) (Pacific ∷ Reef ∷ Tentacle ∷ [])

-- the user 10 asks to write to its file, and from which address is not known
abbrev pub usual : Question
usual = record { fs = codes "cephfs"; caller = caller 10 10; path = codes "foo" ∷ codes "bar" ∷ []; attr = owned 10 10 0o644; asked = asked_for Write; address = None }

-- root asks to read
abbrev pub root : Question
root = record { fs = codes "a"; caller = caller 0 0; path = codes "foo" ∷ []; attr = owned 0 0 0o777; asked = asked_for Read; address = None }

-- what is answered by the grants that are read in a text, or up to which byte it is read
abbrev pub answered : {A : Type 0} → (List Grant → A) → Result (List Grant) Unread → Result A ℕ
answered answer (Ok grants) = Ok (answer grants)
answered answer (Err unread) = Err unread.at

-- as much of a verdict as an MDS shows
abbrev pub verdict_codes : Verdict → List ℕ
verdict_codes CannotMount = codes "cannot mount"
verdict_codes (Allowed grant) = codes "allowed"
verdict_codes (DependsOnAddress grant) = codes "depends"
verdict_codes (Denied rules) = codes "denied"

-- how many grants each reads in a text
abbrev pub reads : List ℕ → List (Result ℕ ℕ)
reads text = by_each (λ switches. answered length (read_of switches text))

-- what the MDS of each shows
abbrev pub says : List ℕ → Question → List (Result (List ℕ) ℕ)
says text q = by_each (λ switches. answered (λ grants. verdict_codes (verdict_of switches q grants)) (read_of switches text))

-- the whole verdict by the rules of the newest
abbrev pub newest_says : List ℕ → Question → Result Verdict ℕ
newest_says text q = answered (verdict_of (switches_of Tentacle) q) (read_of (switches_of Tentacle) text)

-- by which grant a client of each refuses
abbrev pub refuses : List ℕ → Question → List (Result (Option ℕ) ℕ)
refuses text q = by_each (λ switches. answered (client_refuses switches q) (read_of switches text))
