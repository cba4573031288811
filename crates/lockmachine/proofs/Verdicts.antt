-- What a verdict says of the grants.
use Rattle.std.proofs.Common.{◌≡◌, ℕ, Option, Some, None, List, refl, subst, sym, ◌∙◌}
use Rattle.std.specs.Option.{option_map}
use Rattle.capbits.specs.declared.caller.Caller.{Caller}
use Rattle.capgrant.specs.declared.access.Access.{Access}
use Rattle.inotree.specs.declared.node.Node.{Node}
use Rattle.sessiontab.specs.declared.session.Session.{Session}
use Rattle.lockmachine.specs.Policy.{failures_of, subject_of}
use Rattle.capspec.specs.declared.grant.Grant.{Grant}
use Rattle.capgrant.specs.declared.answer.Verdict.{Verdict}
use Rattle.capgrant.specs.Question.{Question}
use Rattle.capgrant.specs.Verdict.{IfDenied, allows, first_failures, verdict_at, verdict_of}
use Rattle.capgrant.specs.declared.rule.Rule.{Rule}
use Rattle.std.specs.List.{position}

at_place : (o : Option ℕ) (rules : List Rule) → IfDenied (verdict_at o rules) (λ r. r ≡ rules)
at_place (Some place) rules = tt
at_place None rules = refl

-- a denial has the rules by which the grants fail first
pub denial-rules : (q : Question) (grants : List Grant) (v : Verdict) → v ≡ verdict_of q grants → IfDenied v (λ r. r ≡ first_failures q grants)
unfolding verdict_of
denial-rules q grants v is = subst (λ v. IfDenied v (λ r. r ≡ first_failures q grants)) (sym is) (at_place (position (allows q) grants) (first_failures q grants))

-- and so it has those of a client whose session is there, on an inode that has a path
pub rules-of : (fs : List ℕ) (session : Option Session) (way : Option (List (List ℕ))) (inode : Option Node) (access : Access) (grants : List Grant) (caller : Caller) (path : List (List ℕ)) (node : Node) (v : Verdict) →
    option_map (λ s. s.grants) session ≡ Some grants → option_map (λ s. s.caller) session ≡ Some caller → way ≡ Some path → inode ≡ Some node →
    v ≡ verdict_of (record { fs = fs; caller = caller; path = path; attr = node.attr; access = access }) grants →
    IfDenied v (λ r. r ≡ failures_of fs (subject_of session way inode) access)
rules-of fs None way inode access grants caller path node v g c w i is = cc
rules-of fs (Some s) None inode access grants caller path node v g c w i is = cc
rules-of fs (Some s) (Some p) None access grants caller path node v g c w i is = cc
rules-of fs (Some s) (Some p) (Some n) access grants caller path node v g c w i is =
    let gs : grants ≡ s.grants = cc in
    let cs : caller ≡ s.caller = cc in
    let ps : path ≡ p = cc in
    let ns : node ≡ n = cc in
    denial-rules (record { fs = fs; caller = s.caller; path = p; attr = n.attr; access = access }) s.grants v
    (is ∙ (λ k. verdict_of (record { fs = fs; caller = cs k; path = ps k; attr = (ns k).attr; access = access }) (gs k)))
