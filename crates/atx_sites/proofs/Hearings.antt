-- What is heard of a connection that is read aside, and the interim line that is said on it.
use Rattle.std.proofs.Common.{ℕ, List, ◌≡◌, ◌∙◌, refl, subst, sym}
use Rattle.system_calls.specs.Calls.{Answer, Calls, Number, then}
use Rattle.system_calls.specs.Calls.Call.{Read, Write}
use Rattle.atx_sites.specs.Arrivals.{HasCome, Stays}
use Rattle.atx_sites.specs.Interim.{Hears, Says}
use Rattle.atx_sites.specs.Interim.Hears.{none, more}
use Rattle.atx_sites.specs.LinkCalls.{Came}
use Rattle.atx_sites.specs.LinkCalls.Came.{beside}
use Rattle.atx_sites.specs.declared.arriving.Arriving.{Arriving}

pub unheard : (stream : Number) (old : Calls) → Hears stream old old
unheard stream old = none refl

pub heard : (stream : Number) (old mid new : Calls) (got : Answer (List ℕ)) → Hears stream old mid → new ≡ then (Read stream got) mid → Hears stream old new
heard stream old mid new got h e = more got h e

module _ {C : Type 0} where
  -- the same connection, and as much of the line
  abbrev pub StaysSo : Arriving C → Arriving C → Type 0
  StaysSo before after = Stays before after × (after.said ≡ before.said)

  pub stays_so : (a : Arriving C) → StaysSo a a
  stays_so a = ((refl, refl, refl), refl)

  pub stays_on : (a b c : Arriving C) → StaysSo a b → StaysSo b c → StaysSo a c
  stays_on a b c p q = ((q.0.0 ∙ p.0.0, q.0.1 ∙ p.0.1, q.0.2 ∙ p.0.2), q.1 ∙ p.1)

  pub stays_both : (a b c : Arriving C) → Stays a b → Stays b c → Stays a c
  stays_both a b c p q = (q.0 ∙ p.0, q.1 ∙ p.1, q.2 ∙ p.2)

  module _ (number : C → Number) where
    pub heard_on : (a b : Arriving C) (old mid new : Calls) → StaysSo a b → Hears (number a.stream) old mid
        → ((first : Calls) → Hears (number b.stream) first mid → Hears (number b.stream) first new) → Hears (number a.stream) old new
    heard_on a b old mid new stays h goes =
        subst (λ s. Hears (number s) old new) stays.0.0 (goes old (subst (λ s. Hears (number s) old mid) (sym stays.0.0) h))

    pub came_said : (listener : Number) (a b : Arriving C) (old new : Calls) → Says number a b old new → (b.bytes ≡ a.bytes) × Stays a b
        → HasCome number listener old a → HasCome number listener new b
    came_said listener a b old new (got, e, said) same h =
        beside (Write (number a.stream) _ got)
        (subst (λ p. Came listener (number b.stream, p) b.bytes.items old) (sym same.1.2)
        (subst (λ s. Came listener (number s, a.peer) b.bytes.items old) (sym same.1.0) (subst (λ v. Came listener (number a.stream, a.peer) v.items old) (sym same.0) h))) e
