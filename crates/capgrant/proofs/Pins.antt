-- The pin is permitted with whatever else is.
use Rattle.std.proofs.Common.{◌≡◌, Bool, true, false, ◌||◌, List, ◌∙◌, sym, ap, true≢false}
use Rattle.std.proofs.lemmas.Bool.{or_right}
use Rattle.capbits.specs.declared.cap.Cap.{Cap}
use Rattle.capbits.specs.declared.cap.Cap.TheVariants.{P}
use Rattle.capbits.specs.Caps.{has}
use Rattle.capbits.specs.Sets.{caps_in, has-caps_in, has-none, has-union, no_caps, union}
use Rattle.capspec.specs.declared.grant.Grant.{Grant}
use Rattle.capgrant.specs.declared.access.Access.{Access}
use Rattle.capgrant.specs.declared.access.Access.TheVariants.{Read, Write}
use Rattle.capgrant.specs.Question.{Question}
use Rattle.capgrant.specs.Verdict.{granted}
use Rattle.capgrant.specs.Permitted.{caps_for, caps_if, for_either, for_readers, for_writers, permitted_of}

-- without the pin nothing is permitted
none_without_pin : (reads writes : Bool) → has (caps_for reads writes) P ≡ false → (c : Cap) → has (caps_for reads writes) c ≡ false
none_without_pin true writes out c = absurd (true≢false (sym (has-union (caps_in for_either) _ P ∙ ap (λ b. b || has (union (caps_in for_readers) (caps_if writes for_writers)) P) (has-caps_in for_either P)) ∙ out))
none_without_pin false true out c = absurd (true≢false (sym (has-union (caps_in for_either) _ P ∙ ap (λ b. b || has (union no_caps (caps_in for_writers)) P) (has-caps_in for_either P)) ∙ out))
none_without_pin false false out c = has-union no_caps (union no_caps no_caps) c ∙ (λ i. has-none c i || has (union no_caps no_caps) c) ∙ has-union no_caps no_caps c ∙ (λ i. has-none c i || has no_caps c) ∙ has-none c

pub nothing_without_pin : (ask : Access → Question) (grants : List Grant) → has (permitted_of ask grants) P ≡ false → (c : Cap) → has (permitted_of ask grants) c ≡ false
unfolding permitted_of
nothing_without_pin ask grants out c = none_without_pin (granted (ask Read) grants) (granted (ask Write) grants) out c

-- and with leave to read or to write the pin is
has_pin : (reads writes : Bool) → (reads || writes) ≡ true → has (caps_for reads writes) P ≡ true
has_pin true writes may = has-union (caps_in for_either) _ P ∙ ap (λ b. b || has (union (caps_in for_readers) (caps_if writes for_writers)) P) (has-caps_in for_either P)
has_pin false true may = has-union (caps_in for_either) _ P ∙ ap (λ b. b || has (union no_caps (caps_in for_writers)) P) (has-caps_in for_either P)
has_pin false false may = absurd (true≢false (sym may))

pub pin_of_read : (ask : Access → Question) (grants : List Grant) → granted (ask Read) grants ≡ true → has (permitted_of ask grants) P ≡ true
unfolding permitted_of
pin_of_read ask grants may = has_pin (granted (ask Read) grants) (granted (ask Write) grants) (ap (λ b. b || granted (ask Write) grants) may)

pub pin_of_write : (ask : Access → Question) (grants : List Grant) → granted (ask Write) grants ≡ true → has (permitted_of ask grants) P ≡ true
unfolding permitted_of
pin_of_write ask grants may = has_pin (granted (ask Read) grants) (granted (ask Write) grants) (or_right (granted (ask Read) grants) (granted (ask Write) grants) may)
