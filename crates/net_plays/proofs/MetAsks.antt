-- What can be asked of a play can be asked of its nodes.
use Rattle.std.specs.Prelude.{ℕ, List, [], ◌∷◌, ◌-◌, ◌≡◌, ◌≤◌, Bool, true, false, Option, Some, if◌then◌else◌, length, map, nat_eq, unwrap_or}
use Rattle.std.specs.List.{AllByRecursion}
use Rattle.std.proofs.Common.{ap, arith, refl, subst, sym, ◌∙◌}
use Rattle.std.proofs.lemmas.Bool.{eqb-false}
use Rattle.asked_nets.specs.Happened.{HasIncarnations, MayAskOf}
use Rattle.at_model.specs.World.{Ask, Crash, Deliver, Input, Posted, Raw, Tick, Turn, Up, World, WorldEvent, node_of, nth}
use Rattle.memory_net.specs.Mails.{Mail, mail_of}
use Rattle.memory_net.specs.ShortLetters.{LettersAreShort}
use Rattle.memory_net.specs.Stands.{AreMailsOf, IsMailOf}
use Rattle.memory_net.proofs.Standing.{same_some}
use Rattle.mirrored_nets.specs.MayCome.{FitsClock, MayCome}
use Rattle.mirrored_nets.specs.Seen.{Seen}
use Rattle.settling.proofs.Places.{all_nth}
use Rattle.world_laws.specs.Events.{ms_of}
use Rattle.world_laws.specs.Runs.{IsNode}
use Rattle.net_plays.specs.Asks.{CanAskOf}
use Rattle.net_plays.specs.Behind.{AsksAreMet, IsBehind}
use Rattle.net_plays.specs.Incarnations.{IsEarly}

-- there is an item of each number up to how many there are
there : {A : Type 0} (i : ℕ) (xs : List A) → 1 ≤ i → i ≤ length xs → (x : A) × (nth i xs ≡ Some x)
there i [] least within = absurd (omega (arith, least, within))
there i (x ∷ xs) least within = by (λ l m. there (i - 1) xs l m) (nat_eq i 1) refl
  where
    by : (1 ≤ i - 1 → i - 1 ≤ length xs → (y : _) × (nth (i - 1) xs ≡ Some y)) → (t : Bool) → nat_eq i 1 ≡ t → (y : _) × ((if t then Some x else nth (i - 1) xs) ≡ Some y)
    by rest true e = (x, refl)
    by rest false e = let other = eqb-false i 1 e in rest (omega (arith, least, other)) (omega (arith, within))

-- the letter of a message
letter_of : (k : ℕ) (ps : List Posted) (ms : List Mail) (p : Posted) → AreMailsOf ps ms → nth k ps ≡ Some p → (m : Mail) × (nth k ms ≡ Some m) × IsMailOf p m
letter_of k [] ms p are found = absurd cc
letter_of k (q ∷ ps) [] p are found = absurd are
letter_of k (q ∷ ps) (n ∷ ms) p (is, are) found = by (letter_of (k - 1) ps ms p are) (nat_eq k 1) refl found
  where
    by : (nth (k - 1) ps ≡ Some p → (m : Mail) × (nth (k - 1) ms ≡ Some m) × IsMailOf p m) → (b : Bool) → nat_eq k 1 ≡ b → (if b then Some q else nth (k - 1) ps) ≡ Some p
        → (m : Mail) × (nth k (n ∷ ms) ≡ Some m) × IsMailOf p m
    by later true e f = (n, ap (λ t. if t then Some n else nth (k - 1) ms) e, subst (λ z. IsMailOf z n) (same_some q p f) is)
    by later false e f = let (m, at, mail) = later f in (m, ap (λ t. if t then Some n else nth (k - 1) ms) e ∙ at, mail)

short_at : (k : ℕ) (ms : List Mail) (m : Mail) → AllByRecursion (λ (x : Mail). length x.bytes ≤ 65536) ms → nth k ms ≡ Some m → length m.bytes ≤ 65536
short_at k [] m all found = absurd cc
short_at k (n ∷ ms) m (short, all) found = by (short_at (k - 1) ms m all) (nat_eq k 1) found
  where
    by : (nth (k - 1) ms ≡ Some m → length m.bytes ≤ 65536) → (b : Bool) → (if b then Some n else nth (k - 1) ms) ≡ Some m → length m.bytes ≤ 65536
    by later true f = subst (λ (x : Mail). length x.bytes ≤ 65536) (same_some n m f) short
    by later false f = later f

module _ (law : LettersAreShort) (count : ℕ) (net : Seen) (w : World) (es : List WorldEvent) (small : count ≤ 8) (few : length es ≤ 4294967295) (b : IsBehind count net w es) where
  comes : (i : ℕ) (input : Input) (fates : List Bool) (until : Option ℕ) (raw : List ℕ) → CanAskOf w (Turn i input fates until) raw → MayCome (map mail_of net.letters) i input raw
  comes i (Deliver k) fates until raw (p, found, to) =
      let (m, at, mail) = letter_of k b.mirrors.stands.net.posted (map mail_of net.letters) p b.mirrors.stands.letters (ap (nth k) (sym b.mirrors.world.posted) ∙ found) in (
        m,
        at,
        sym mail.receiver ∙ ap (λ o. unwrap_or o 0) to,
        short_at k (map mail_of net.letters) m (law count net.hosts (map mail_of net.letters) (omega (arith, small)) b.mirrors.stands) at,
      )
  comes i (Tick ms) fates until raw can = tt
  comes i Raw fates until raw can = can

  fits : (i : ℕ) (input : Input) (fates : List Bool) (until : Option ℕ) → 1 ≤ i → i ≤ count → ms_of (Turn i input fates until) ≤ 4294967295 → FitsClock net.clocks i input
  fits i (Deliver k) fates until least within short = tt
  fits i (Tick ms) fates until least within short = λ c at.
      let (x, found) = there i w.nodes least (subst (λ k. i ≤ k) (sym b.mirrors.nodes) within) in
      let node : IsNode (length es) x = all_nth (IsNode (length es)) i x w.nodes b.fit.each found in
      let shows : x.clock ≡ c = b.mirrors.clocks_are i c x at found in
      let brief : ms ≤ 4294967295 = short in
      omega (arith, node.clock, shows, brief, few)
  fits i Raw fates until least within short = tt

  left : (i : ℕ) → HasIncarnations w i
  left i x found = let early : IsEarly (length es) x = all_nth (IsEarly (length es)) i x w.nodes b.early found in omega (arith, early.fewer, few)

  met : (asked : WorldEvent) (raw : List ℕ) → 1 ≤ node_of asked → node_of asked ≤ count → ms_of asked ≤ 4294967295 → CanAskOf w asked raw → MayAskOf w asked raw net
  met (Turn i input fates until) raw least within short can = (comes i input fates until raw can, fits i input fates until least within short)
  met (Ask i request fates until) raw least within short can = can
  met (Crash i) raw least within short can = tt
  met (Up i landed stop) raw least within short can = left i

pub asks_are_met : LettersAreShort → AsksAreMet
asks_are_met law count net w es asked raw small few short b can = record {
  least = can.least;
  within = can.within;
  may = met law count net w es small few b asked raw can.least can.within short can.of;
}
