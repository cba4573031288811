use Rattle.std.proofs.Common.{ℕ, List, sym, ap, ◌∙◌}
use Rattle.std.specs.Prelude.{map}
use Rattle.std.specs.Borrow.{Bor}
use Rattle.std.proofs.lemmas.List.Elements.{same_from_all_zip}
use Rattle.policy_analysis.specs.Asking.{setting}
use Rattle.policy_analysis.proofs.Witnesses.{is_witness, setting_fits, wanted_witness}
use Rattle.policy_analysis.proofs.search.Search.find_by.Goals as goal

pub ask_for-requires : goal.ask_for-requires
ask_for-requires c =
    setting_fits c.args.self.now.accesses c.args.self.now.old.now c.args.self.now.new.now c.fs_for-fs.result.now (map (λ (name : Bor (List ℕ)). name.now) c.as_slice.result.now) c.args.self.now.nobody c.args.grant.now c.requires
    (ap (map (λ (name : Bor (List ℕ)). name.now)) c.as_slice.ensures.value ∙ c.in_ok-names.ensures)
    c.fs_for-fs.ensures c.args.self.now.above c.args.self.now.no_old_gid c.args.self.now.no_new_gid

pub returns-clause-exact : goal.returns-clause-exact
returns-clause-exact c =
    is_witness (setting c.args.self.now.accesses c.args.self.now.old.now c.args.self.now.new.now c.fs_for-fs.result.now (map (λ (name : Bor (List ℕ)). name.now) c.as_slice.result.now) c.args.self.now.nobody) c.args.root c.in-Some.found c.in_ok-clone-in-Some.field-0 c.args.grant.now.path c.into_witness.result
    c.in-Some.ensures.found
    (let copied = c.in_ok-clone-in-Some.ensures.cases in sym copied.3 ∙ same_from_all_zip _ _ _ copied.4 (λ x y same. same) ∙ copied.2)
    (sym (ap (map (λ (name : Bor (List ℕ)). name.now)) c.as_slice.ensures.value ∙ c.in_ok-names.ensures))
    c.into_witness.ensures.asks
    c.into_witness.ensures.number

pub returns-clause-wanted : goal.returns-clause-wanted
returns-clause-wanted c =
    wanted_witness (setting c.args.self.now.accesses c.args.self.now.old.now c.args.self.now.new.now c.fs_for-fs.result.now (map (λ (name : Bor (List ℕ)). name.now) c.as_slice.result.now) c.args.self.now.nobody) c.args.root c.in-Some.found c.in_ok-clone-in-Some.field-0 c.args.grant.now.path c.into_witness.result
    c.in-Some.ensures.found
    c.into_witness.ensures.asks
