use Rattle.std.proofs.Common.{sym, subst, ap, ◌∙◌, map, get_or, arith}
use Rattle.capspec.specs.Paths.{slashed}
use Rattle.capspec.specs.SharedPrefix.{AreAlike, AreSharedPrefixes, IsSharedPrefix}
use Rattle.capspec.proofs.Sharing.{prefix_more, known_of}
use Rattle.capspec.proofs.kept.KeptGrants.shared_prefixes.Goals as goal
use Rattle.capspec.proofs.kept.KeptGrants.shared_prefixes.Goals.{in-None, in-Some}

pub shared_prefix_in-here-requires : goal.shared_prefix_in-here-requires
shared_prefix_in-here-requires c =
    known_of (map (λ name. name.now) c.args.names.now) c.as_slice-grants.result.now c.loop-place.shared_prefix.items c.deref.result.now c.self.inside.alike.items c.deref-alike-items.result.now c.loop-place.place
    c.index-grants-place.result (record { other = 0; bytes = 0 }) c.in-Some.known.now c.as_bytes-text.result.now c.deref.ensures.0 c.deref-alike-items.ensures.0 c.loop-place.invariant.1 c.loop-place.invariant.0
    (omega (arith, c.loop-place-test.true)) (subst (λ grants. AreAlike grants c.self.inside.alike.items) (sym c.as_slice-grants.ensures.same) c.self.invariant)
    c.as_bytes-text.ensures c.in-Some.ensures.lookup.3.0 (c.in-Some.ensures.lookup.3.1 c.in-Some.known.now)

pub loop-place-preserved : goal.loop-place-preserved
loop-place-preserved c =
    let names = map (λ name. name.now) c.args.names.now in
    let grants = c.as_slice-grants.result.now in
    let shared_prefix = c.loop-place.shared_prefix.items in
    let text-is = c.as_bytes-text.ensures ∙ ap (λ n. slashed (get_or grants n c.index-grants-place.result).path) (sym c.loop-place.invariant.0) in
    let here : IsSharedPrefix names c.as_bytes-text.result.now c.match-get.here = elim c.match-get.branch [
      | in-Some w ↦ subst (IsSharedPrefix names c.as_bytes-text.result.now) (sym w.here-is) w.shared_prefix_in-here.ensures
      | in-None w ↦ subst (IsSharedPrefix names c.as_bytes-text.result.now) (sym w.here-is) w.go_on-here.ensures
    ] in (
      omega (arith, c.loop-place.invariant.0, c.push.ensures.len),
      subst (AreSharedPrefixes names grants) (sym c.push.ensures.items) (prefix_more names grants shared_prefix c.match-get.here c.index-grants-place.result c.as_bytes-text.result.now c.loop-place.invariant.1 text-is here),
    )

pub returns : goal.returns
returns c = subst (λ grants. AreSharedPrefixes (map (λ name. name.now) c.args.names.now) grants c.loop-place.shared_prefix.items) (c.as_slice-grants.ensures.same ∙ c.self.view_is) c.loop-place.invariant.1
