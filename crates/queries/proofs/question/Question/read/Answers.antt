use Rattle.std.proofs.Common.{rules, ℕ, List, refl, subst}
use Rattle.capspec.specs.Faults.{IsFault}
use Rattle.texts.specs.Access.{IsAccessWord}
use Rattle.queries.specs.Question.{IsFaultOfAsking}
use Rattle.queries.proofs.FirstBad.{bad_asking, bad_grants, good_grants, handed_on}
use Rattle.queries.proofs.question.Question.read.Goals as goal

pub returns-in_err-grants-clause-err : goal.returns-in_err-grants-clause-err
returns-in_err-grants-clause-err c =
    let found = c.in_err-grants.ensures.err in
    bad_grants c.args.values.now c.in_err-grants.field-0.0 _ (found.0, found.1, subst (λ (text : List ℕ). IsFault text found.0) c.as_slice.ensures.value found.2) (handed_on _ _ _ c.from_residual.ensures.1 refl)

pub returns-in_err-fs-clause-err : goal.returns-in_err-fs-clause-err
returns-in_err-fs-clause-err c =
    let v = c.args.values.now in
    bad_asking v c.in_err-fs.field-0.0 _ (good_grants v v.access.items c.as_slice.result.now c.as_slice.ensures.value c.in_ok-grants.ensures.good)
    (subst (λ (text : List ℕ). IsFaultOfAsking v text c.in_err-fs.field-0.0) c.as_slice-2.ensures.value c.in_err-fs.ensures.err) (handed_on _ _ _ c.from_residual-in_err-fs.ensures.1 refl)

pub returns-in-Some-clause-ok : goal.returns-in-Some-clause-ok
returns-in-Some-clause-ok c =
    let asks = c.in_ok-fs.ensures.ok in record {
      grants = search rules;
      fs = asks.fs;
      uid = asks.uid;
      gid = asks.gid;
      groups = asks.groups;
      path = asks.path;
      owner = asks.owner;
      group = asks.group;
      mode = asks.mode;
      access = subst (λ (text : List ℕ). IsAccessWord text c.in_ok-fs.field-0.access) c.as_slice-2.ensures.value asks.access;
      address = (c.in_ok-fs.field-0.address, asks.address);
    }
