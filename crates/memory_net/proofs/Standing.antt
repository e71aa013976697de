-- A net in memory of which one host changes.
use Rattle.std.specs.Prelude.{ℕ, List, [], ◌∷◌, ◌++◌, ◌≡◌, ◌⊎◌, IfSome, Some, Bool, true, false, if◌then◌else◌, nat_eq, option_map, length, drop}
use Rattle.std.proofs.Common.{refl, sym, ap, subst, ◌∙◌, inl, inr}
use Rattle.std.proofs.lemmas.Bool.{cases_eq, eqb-false, ne_eqb}
use Rattle.std.proofs.lemmas.List.{drop-map}
use Rattle.std.proofs.Math.Seq.{drop-append_seam}
use Rattle.at_model.specs.World.{Posted, example_hosts, nth, put_nth}
use Rattle.deliveries.specs.ByteNets.{Serves}
use Rattle.model_laws.specs.Agreement.{IsIn}
use Rattle.node_at.specs.State.{seen}
use Rattle.node_worlds.specs.Machines.{Goes, IsLeftAlone, IsOn}
use Rattle.node_worlds.specs.Nets.{Net, Place}
use Rattle.node_worlds.proofs.Places.{nth_other, nth_this}
use Rattle.site_memory.specs.Devices.{Leaves, calls_in, opening_in}
use Rattle.site_memory.specs.Disk.{Image, chosen_files}
use Rattle.site_memory.specs.Entries.{made_of, mades}
use Rattle.site_memory.specs.Sites.{told_of}
use Rattle.site_memory.specs.Tells.{reads}
use Rattle.site_memory.specs.declared.arm.Choice.{Choice}
use Rattle.site_memory.specs.declared.machine.MemSite.{MemSite}
use Rattle.site_model.specs.Told.{Files, Made, sent_by}
use Rattle.memory_net.specs.Calls.{IsServing}
use Rattle.memory_net.specs.Closed.{AsksOf, closed}
use Rattle.memory_net.specs.Hosts.{since}
use Rattle.memory_net.specs.Mails.{Mail, mails_in}
use Rattle.memory_net.specs.Stands.{AreMailsOf, Holds, IsMailOf, Stands}
use Rattle.memory_net.specs.declared.host.Host.{Host}

pub same_some : {A : Type 0} (x y : A) → Some x ≡ Some y → x ≡ y
same_some x y e = cc

-- one machine in place of another
abbrev pub placed_at : ℕ → MemSite → (ℕ → MemSite) → ℕ → MemSite
placed_at i t ls j = if nat_eq j i then t else ls j

is_eq : (i : ℕ) → nat_eq i i ≡ true
is_eq i = by (nat_eq i i) refl
  where
    by : (b : Bool) → nat_eq i i ≡ b → b ≡ true
    by true e = refl
    by false e = absurd (eqb-false i i e refl)

pub placed_this : (i : ℕ) (t : MemSite) (ls : ℕ → MemSite) → placed_at i t ls i ≡ t
placed_this i t ls = ap (λ b. if b then t else ls i) (is_eq i)

pub placed_other : (i : ℕ) (t : MemSite) (ls : ℕ → MemSite) (j : ℕ) → (j ≡ i → ⊥) → placed_at i t ls j ≡ ls j
placed_other i t ls j h = ap (λ b. if b then t else ls j) (ne_eqb j i h)

pub goes_so : (i : ℕ) (t : MemSite) (ls : ℕ → MemSite) → Goes i t ls (placed_at i t ls)
goes_so i t ls = record { this = placed_this i t ls; others = placed_other i t ls }

-- its files and calls are the same
pub alone : (a b : MemSite) → opening_in b.device ≡ opening_in a.device → calls_in b.device ≡ calls_in a.device → IsLeftAlone (told_of a) (told_of b)
alone a b e f = record {
  files = (λ i. Some (reads (e i) (f i)));
  images = λ c image. subst (λ l. Image (opening_in a.device) l c) f (subst (λ o. Image o (calls_in b.device) c) e image);
}

pub alone_where : (i : ℕ) (h t : MemSite) (ls : ℕ → MemSite) → ls i ≡ h → opening_in t.device ≡ opening_in h.device → calls_in t.device ≡ calls_in h.device → (j : ℕ)
    → IsLeftAlone (told_of (ls j)) (told_of (placed_at i t ls j))
alone_where i h t ls is e f j = by (cases_eq j i)
  where
    by : (j ≡ i) ⊎ (j ≡ i → ⊥) → IsLeftAlone (told_of (ls j)) (told_of (placed_at i t ls j))
    by (inl same) =
        subst (λ z. IsLeftAlone (told_of (ls j)) (told_of z)) (sym (ap (placed_at i t ls) same ∙ placed_this i t ls))
        (subst (λ z. IsLeftAlone (told_of z) (told_of t)) (sym (ap ls same ∙ is)) (alone h t e f))
    by (inr other) = subst (λ z. IsLeftAlone (told_of (ls j)) (told_of z)) (sym (placed_other i t ls j other)) (alone (ls j) (ls j) refl refl)

-- a machine that came up on what was chosen of a crash
pub comes_on : (choice : Choice) (t s : MemSite) → Leaves choice t.device s.device → IsOn (chosen_files choice (opening_in t.device) (calls_in t.device)) (told_of s)
comes_on choice t s left = subst (λ o. IsOn o (told_of s)) opening (record {
  files = ap (λ l. Some (reads (opening_in s.device) l)) left.calls;
  images = λ d image. same d (subst (λ l. Image (opening_in s.device) l d) left.calls image);
})
  where
    opening : opening_in s.device ≡ chosen_files choice (opening_in t.device) (calls_in t.device)
    opening = λ i. record { first = left.first i; second = left.second i }

    same : (d : Files) → Image (opening_in s.device) [] d → d ≡ opening_in s.device
    same d (first, second) = λ i. record { first = first i; second = second i }

-- the letters behind those that are there
pub mails_join : (ps qs : List Posted) (ms ns : List Mail) → AreMailsOf ps ms → AreMailsOf qs ns → AreMailsOf (ps ++ qs) (ms ++ ns)
mails_join [] qs [] ns h k = k
mails_join [] qs (m ∷ ms) ns h k = absurd h
mails_join (p ∷ ps) qs [] ns h k = absurd h
mails_join (p ∷ ps) qs (m ∷ ms) ns (h, more) k = (h, mails_join ps qs ms ns more k)

pub mail_found : (ps : List Posted) (ms : List Mail) (m : Mail) → AreMailsOf ps ms → IsIn m ms → (p : Posted) × IsIn p ps × IsMailOf p m
mail_found [] [] m h k = absurd k
mail_found [] (n ∷ ms) m h k = absurd h
mail_found (p ∷ ps) [] m h k = absurd k
mail_found (p ∷ ps) (n ∷ ms) m (h, more) (inl e) = (p, inl refl, subst (IsMailOf p) (sym e) h)
mail_found (p ∷ ps) (n ∷ ms) m (h, more) (inr k) = let (q, here, is) = mail_found ps ms m more k in (q, inr here, is)

-- those among the calls that were added
pub since_made : (number count : ℕ) (s t : MemSite) (made : List Made) → (told_of t).calls ≡ option_map (λ l. l ++ made) (told_of s).calls → since number count s t ≡ mails_in number count (sent_by made)
since_made number count s t made e =
    ap (λ l. mails_in number count (sent_by l))
    (sym (drop-map made_of (length (calls_in s.device)) t.device.log.items)
    ∙ ap (drop (length (calls_in s.device))) (same_some (calls_in t.device) (calls_in s.device ++ made) e)
    ∙ drop-append_seam (calls_in s.device) made)

pub since_same : (number count : ℕ) (r s t : MemSite) → calls_in s.device ≡ calls_in r.device → since number count s t ≡ since number count r t
since_same number count r s t e = ap (λ (l : List Made). mails_in number count (sent_by (mades (drop (length l) t.device.log.items)))) e

-- a net of which one place changes
pub restand : (count : ℕ) (hosts : List Host) (mails more : List Mail) (st : Stands count hosts mails) (i : ℕ) (h g : Host) → nth i hosts ≡ Some h
    → (w : Net) (ws : ℕ → MemSite) (serves : Serves told_of (example_hosts count) w ws) → AsksOf closed told_of (example_hosts count) w ws serves
    → (p q : Place) → nth i st.net.places ≡ Some p → w.places ≡ put_nth i q st.net.places → q.node ≡ option_map seen g.node → IfSome g.node IsServing → ws i ≡ g.site
    → ((j : ℕ) → (j ≡ i → ⊥) → ws j ≡ st.sites j) → AreMailsOf w.posted more → Stands count (put_nth i g hosts) more
restand count hosts mails more st i h g here w ws serves asks p q at placed node serving site others are = record {
  net = w;
  sites = ws;
  serves = serves;
  asks = asks;
  holds = held;
  letters = are;
}
  where
    this : Holds w ws i g
    this = record { place = q; here = ap (nth i) placed ∙ nth_this st.net.places i p q at; node = node; site = site; serving = serving }

    held : (j : ℕ) (x : Host) → nth j (put_nth i g hosts) ≡ Some x → Holds w ws j x
    held j x e = by (cases_eq j i)
      where
        by : (j ≡ i) ⊎ (j ≡ i → ⊥) → Holds w ws j x
        by (inl f) =
            let same : g ≡ x = same_some g x (sym (nth_this hosts i h g here) ∙ ap (λ k. nth k (put_nth i g hosts)) (sym f) ∙ e) in
            subst (λ k. Holds w ws k x) (sym f) (subst (Holds w ws i) same this)
        by (inr f) =
            let old = st.holds j x (sym (nth_other hosts j i g f) ∙ e) in
            record {
              place = old.place;
              here = ap (nth j) placed ∙ nth_other st.net.places j i q f ∙ old.here;
              node = old.node;
              site = others j f ∙ old.site;
              serving = old.serving;
            }
