-- What a machine tells of its links.
use Rattle.std.proofs.Common.{ℕ, Bool, true, false, Option, Some, None, ◌≡◌, ◌∙◌, refl, ap, subst}
use Rattle.std.proofs.lemmas.Bool.{and_parts, eqb-true, false≢true}
use Rattle.std.specs.Prelude.{cond, nat_eq, option_map}
use Rattle.site_model.specs.Site.{Arming as Told}
use Rattle.site_memory.specs.Armings.{told_arming}
use Rattle.site_memory.specs.Sites.{told_of}
use Rattle.site_memory.specs.SoundLinks.{are_sound}
use Rattle.site_memory.specs.declared.arm.Arming.{Arming}
use Rattle.site_memory.specs.declared.machine.MemSite.{MemSite}

none_failed : {A : Type 0} (fail : ℕ) (names : Option A) (accept receive : ℕ) → are_sound false fail names accept receive ≡ true → (accept ≡ 0) × (receive ≡ 0)
none_failed fail None accept receive h =
    let (none, failed) = and_parts (nat_eq fail 0) _ h in
    let (a, r) = and_parts (nat_eq accept 0) _ failed in
    (eqb-true accept 0 a, eqb-true receive 0 r)
none_failed fail (Some names) accept receive h = absurd (false≢true h)

abbrev TellsNone : Option Told → Type 0
TellsNone None = Unit {0}
TellsNone (Some a) = ⊥

abbrev device_arming : Arming → Option Told → Arming
device_arming x None = x
device_arming x (Some a) = record { since = a.since; fails = a.fails }

pub links_hold : (s : MemSite) (a : Told) → (told_of s).counts.arming ≡ Some a
    → (s.links.may_fail ≡ false) × (s.links.accept ≡ 0) × (s.links.receive ≡ 0) × (s.device.arming ≡ Some (record { since = a.since; fails = a.fails }))
links_hold s a tells = by_case s.links.may_fail s.device.arming refl refl tells where
  by_case : (may_fail : Bool) (arming : Option Arming) → s.links.may_fail ≡ may_fail → s.device.arming ≡ arming → cond may_fail None (option_map told_arming arming) ≡ Some a
      → (s.links.may_fail ≡ false) × (s.links.accept ≡ 0) × (s.links.receive ≡ 0) × (s.device.arming ≡ Some (record { since = a.since; fails = a.fails }))
  by_case true arming may is e = absurd (subst TellsNone e tt)
  by_case false None may is e = absurd (subst TellsNone e tt)
  by_case false (Some x) may is e =
      let (accept, receive) = none_failed s.links.fail s.links.names s.links.accept s.links.receive (subst (λ b. are_sound b s.links.fail s.links.names s.links.accept s.links.receive ≡ true) may s.links.sound) in
      (may, accept, receive, is ∙ ap (λ o. Some (device_arming x o)) e)
