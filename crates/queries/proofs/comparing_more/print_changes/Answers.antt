use Rattle.std.proofs.Common.{◌≡◌, ℕ, List, ◌++◌, append_assoc, sym, ap, ◌∙◌}
use Rattle.std.specs.Prelude.{codes}
use Rattle.std.proofs.lemmas.Result.{on_ok_weaker}
use Rattle.release_rules.specs.declared.release.Release.{Release}
use Rattle.release_rules.specs.Releases.{version_of}
use Rattle.texts.specs.declared.shape.Shape.TheVariants.{Lines}
use Rattle.queries.specs.ComparingBy.{changes_text}
use Rattle.queries.specs.ComparingMore.{ReleaseAnswer, head_of, section_of}
use Rattle.queries.proofs.Sections.{unlike_section}
use Rattle.queries.proofs.comparing_more.print_changes.Goals as goal

laid_out : (release : Release) (told changes : List ℕ) → told ≡ changes → codes "by the rules of Ceph " ++ (version_of release ++ (codes ":\n" ++ told)) ≡ head_of release ++ (codes "\n" ++ changes)
laid_out release told changes is =
    ap (λ (r : List ℕ). codes "by the rules of Ceph " ++ r) (sym (append_assoc (version_of release) (codes ":") (codes "\n" ++ told)))
    ∙ ap (λ (r : List ℕ). head_of release ++ (codes "\n" ++ r)) is

pub returns : goal.returns
returns c =
    let front : List ℕ = c.args.lines.now.items in
    let told : List ℕ = c.as_slice.result.now in
    let printed : List ℕ = codes "by the rules of Ceph " ++ (version_of c.args.release ++ (codes ":\n" ++ told)) in
    let section : List ℕ = section_of c.args.own c.args.release (ReleaseAnswer.compared c.args.changes.now) in
    let told_is : told ≡ changes_text Lines c.args.changes.now = c.as_slice.ensures.value ∙ c.in_ok-told.ensures in
    let unlike = unlike_section c.args.own c.args.release c.args.changes.now (sym c.tells_alike.ensures ∙ c.if-tells_alike.false) in
    let same : printed ≡ section = laid_out c.args.release told (changes_text Lines c.args.changes.now) told_is ∙ sym unlike in
    let as_section : c.print_behind.new.lines.items ≡ front ++ printed → c.print_behind.new.lines.items ≡ front ++ section = λ is. is ∙ ap (λ (r : List ℕ). front ++ r) same in
    on_ok_weaker c.print_behind.result as_section c.print_behind.ensures
