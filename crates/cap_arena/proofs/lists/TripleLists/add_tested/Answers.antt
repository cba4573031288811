use Rattle.std.proofs.Common.{◌≡◌, sym, ap, ◌∙◌, subst}
use Rattle.cap_arena.specs.Lists.{IsLists, lists_of}
use Rattle.cap_arena.specs.Calls.{Adds, node}
use Rattle.cap_arena.proofs.Additions.{if_ok, on_err, sound_either}
use Rattle.cap_arena.proofs.lists.TripleLists.add_tested.Goals as goal

pub take_in-requires-clause-sound : goal.take_in-requires-clause-sound
take_in-requires-clause-sound g c =
    let f = c.self.inside in
    subst (λ s. IsLists (lists_of s f.ends.recall f.ends.inodes f.ends.clients)) (sym (ap (λ n. n.slots) c.in_ok-reserve.ensures.rest_kept)) c.self.invariant

pub invariant_of-self-2 : goal.invariant_of-self-2
invariant_of-self-2 g c =
    let f = c.self.inside in
    sound_either c.take_in.result (lists_of c.reserve.new.self.slots f.ends.recall f.ends.inodes f.ends.clients) (lists_of c.take_in.new.nodes.slots c.take_in.new.ends.recall c.take_in.new.ends.inodes c.take_in.new.ends.clients) _
    c.take_in.ensures.added c.take_in.ensures.err
    (subst (λ s. IsLists (lists_of s f.ends.recall f.ends.inodes f.ends.clients)) (sym (ap (λ n. n.slots) c.in_ok-reserve.ensures.rest_kept)) c.self.invariant)

pub returns-clause-ok : goal.returns-clause-ok
returns-clause-ok g c =
    let f = c.self.inside in
    if_ok c.take_in.result _ _ (λ key added.
    subst (λ t. Adds t (lists_of c.take_in.new.nodes.slots c.take_in.new.ends.recall c.take_in.new.ends.inodes c.take_in.new.ends.clients) key (node c.args.client c.args.ino c.args.value))
    (ap (λ s. lists_of s f.ends.recall f.ends.inodes f.ends.clients) (ap (λ n. n.slots) c.in_ok-reserve.ensures.rest_kept) ∙ c.self.view_is) added.1) c.take_in.ensures.added

pub returns-clause-err : goal.returns-clause-err
returns-clause-err g c =
    let f = c.self.inside in
    on_err c.take_in.result _ _ (λ same. same ∙ ap (λ s. lists_of s f.ends.recall f.ends.inodes f.ends.clients) (ap (λ n. n.slots) c.in_ok-reserve.ensures.rest_kept) ∙ c.self.view_is) c.take_in.ensures.err
