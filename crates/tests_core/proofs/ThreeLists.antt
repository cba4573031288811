-- The lists in which nodes stand, step by step.
use Rattle.std.specs.Prelude.{◌≡◌, ℕ, [], ◌∷◌, ◌++◌}
use Rattle.std.proofs.Common.{ap, ◌∙◌}
use Rattle.cap_arena.specs.Calls.{keys_without}
use Rattle.cap_arena.specs.Lists.{Lists, OfRecall, keys}
use Rattle.tests_core.specs.KeptLists.{AreSteps, of_client, of_inode}

module _ (a b c d e : Lists ℕ) (steps : AreSteps a b c d e) where
  pub on_one : keys a (of_inode 2) ≡ 0 ∷ []
  on_one = steps.first.lists (of_inode 2)

  pub on_two : keys b (of_inode 3) ≡ 1 ∷ []
  on_two = steps.second.lists (of_inode 3) ∙ ap (λ ks. ks ++ 1 ∷ []) (steps.first.lists (of_inode 3))

  pub recall : keys c OfRecall ≡ 0 ∷ 1 ∷ 2 ∷ []
  recall = steps.third.lists OfRecall ∙ ap (λ ks. ks ++ 2 ∷ []) (steps.second.lists OfRecall ∙ ap (λ ks. ks ++ 1 ∷ []) (steps.first.lists OfRecall))

  pub on_three : keys c (of_inode 2) ≡ 0 ∷ 2 ∷ []
  on_three = steps.third.lists (of_inode 2) ∙ ap (λ ks. ks ++ 2 ∷ []) (steps.second.lists (of_inode 2) ∙ on_one)

  pub of_one : keys c (of_client 1) ≡ 0 ∷ 1 ∷ []
  of_one = steps.third.lists (of_client 1) ∙ (steps.second.lists (of_client 1) ∙ ap (λ ks. ks ++ 1 ∷ []) (steps.first.lists (of_client 1)))

  pub of_two : keys c (of_client 2) ≡ 2 ∷ []
  of_two = steps.third.lists (of_client 2) ∙ ap (λ ks. ks ++ 2 ∷ []) (steps.second.lists (of_client 2) ∙ steps.first.lists (of_client 2))

  pub recall_touched : keys d OfRecall ≡ 1 ∷ 2 ∷ 0 ∷ []
  recall_touched = steps.touches.recall ∙ ap (λ ks. keys_without ks 0 ++ 0 ∷ []) recall

  pub on_touched : keys d (of_inode 2) ≡ 0 ∷ 2 ∷ []
  on_touched = steps.touches.inodes (record { 0 = 2 }) ∙ on_three

  pub of_touched : keys d (of_client 1) ≡ 0 ∷ 1 ∷ []
  of_touched = steps.touches.clients (record { 0 = 1 }) ∙ of_one

  pub on_left : keys e (of_inode 2) ≡ 0 ∷ []
  on_left = steps.removes.lists (of_inode 2) ∙ ap (λ ks. keys_without ks 2) on_touched

  pub of_left : keys e (of_client 2) ≡ []
  of_left = steps.removes.lists (of_client 2) ∙ ap (λ ks. keys_without ks 2) (steps.touches.clients (record { 0 = 2 }) ∙ of_two)

  pub recall_left : keys e OfRecall ≡ 1 ∷ 0 ∷ []
  recall_left = steps.removes.lists OfRecall ∙ ap (λ ks. keys_without ks 2) recall_touched
