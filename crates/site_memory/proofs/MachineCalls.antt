-- The calls of a whole machine.
use Rattle.std.proofs.Common.{ℕ, List, [], ◌∷◌, Result, ◌≡◌, sym, ◌∙◌, subst}
use Rattle.site_model.specs.Told.{Told, Link}
use Rattle.site_model.specs.Told.Call.{Write, Sync, Send, Post}
use Rattle.site_model.specs.Site.{Counts, OnDisk, OnGate, OnLink}
use Rattle.site_model.specs.Calls.{Wrote, Synced, Raised, Gave}
use Rattle.site_memory.specs.declared.device.Device.{Device}
use Rattle.site_memory.specs.declared.entry.Noted.{Noted}
use Rattle.site_memory.specs.declared.entry.Noted.TheVariants.{Done, Failed, Not}
use Rattle.site_memory.specs.Answers.{Says}
use Rattle.site_memory.specs.Devices.{Runs, calls_in, opening_in}
use Rattle.site_memory.specs.Sites.{RunsTwice, Then}
use Rattle.site_memory.specs.Tells.{tells}
use Rattle.site_memory.proofs.TraitCalls.{wrote, synced_so, gave, sent_keeps, posted_keeps, raised_early, raised_late}

abbrev pub tells_of : Device → Link → ℕ → Counts → Told
tells_of d link clock k = tells (opening_in d) (calls_in d) link clock k

pub wrote_on : {E : Type 0} (d d' : Device) (link : Link) (clock : ℕ) (k k' : Counts) (file at : ℕ) (bytes : List ℕ) (noted : Noted) (r : Result (Unit {0}) E) → Runs (Write file at bytes) noted d d' → Says noted r → OnDisk k k' r → Wrote file at bytes r (tells_of d link clock k) (tells_of d' link clock k')
wrote_on d d' link clock k k' file at bytes noted r h s c =
    subst (λ o. Wrote file at bytes r (tells_of d link clock k) (tells o (calls_in d') link clock k')) (sym h.opening) (wrote (opening_in d) link clock k k' file at bytes noted r _ _ _ _ (calls_in d) (calls_in d') h.notes s c)

pub synced_on : {T E : Type 0} (d d' : Device) (link : Link) (clock : ℕ) (k k' : Counts) (file : ℕ) (noted : Noted) (r : Result T E) → Runs (Sync file) noted d d' → Says noted r → OnDisk k k' r → Synced file r (tells_of d link clock k) (tells_of d' link clock k')
synced_on d d' link clock k k' file noted r h s c =
    subst (λ o. Synced file r (tells_of d link clock k) (tells o (calls_in d') link clock k')) (sym h.opening) (synced_so (opening_in d) link clock k k' file noted r _ _ _ _ (calls_in d) (calls_in d') h.notes s c)

pub sent_on : {T E : Type 0} (d d' : Device) (link : Link) (clock : ℕ) (k k' : Counts) (bytes : List ℕ) (noted : Noted) (r : Result T E) → Runs (Send bytes) noted d d' → Says noted r → OnLink k k' r → Gave (Send bytes) r (tells_of d link clock k) (tells_of d' link clock k')
sent_on d d' link clock k k' bytes noted r h s c =
    subst (λ o. Gave (Send bytes) r (tells_of d link clock k) (tells o (calls_in d') link clock k')) (sym h.opening) (gave (opening_in d) link clock k k' (Send bytes) noted r _ _ _ _ (calls_in d) (calls_in d') (sent_keeps (opening_in d) link clock k k' bytes) h.notes s c)

pub posted_on : {T E : Type 0} (d d' : Device) (link : Link) (clock : ℕ) (k k' : Counts) (host : List ℕ) (port : ℕ) (bytes : List ℕ) (noted : Noted) (r : Result T E) → Runs (Post host port bytes) noted d d' → Says noted r → OnLink k k' r → Gave (Post host port bytes) r (tells_of d link clock k) (tells_of d' link clock k')
posted_on d d' link clock k k' host port bytes noted r h s c =
    subst (λ o. Gave (Post host port bytes) r (tells_of d link clock k) (tells o (calls_in d') link clock k')) (sym h.opening) (gave (opening_in d) link clock k k' (Post host port bytes) noted r _ _ _ _ (calls_in d) (calls_in d') (posted_keeps (opening_in d) link clock k k' host port bytes) h.notes s c)

pub raised_on : {T E : Type 0} (d d' : Device) (link : Link) (clock : ℕ) (k k' : Counts) (file at : ℕ) (noted : Noted) (r : Result T E) → RunsTwice file at noted d d' → Says noted r → OnGate k k' r → Raised file at r (tells_of d link clock k) (tells_of d' link clock k')
raised_on d d' link clock k k' file at noted r h s c = by_case h.mid h.first h.wrote h.synced where
  by_case : (m : Device) (first : Noted) → Runs (Write file at (1 ∷ [])) first d m → Then first file noted m d' → Raised file at r (tells_of d link clock k) (tells_of d' link clock k')
  by_case m Done w t =
      let open_is : opening_in d' ≡ opening_in d = t.opening ∙ w.opening in
      subst (λ o. Raised file at r (tells_of d link clock k) (tells o (calls_in d') link clock k')) (sym open_is)
      (raised_late (opening_in d) link clock k k' file at noted r _ _ _ _ _ _ (calls_in d) (calls_in m) (calls_in d') w.notes t.notes s c)
  by_case m Failed w t =
      subst (λ z. Raised file at r (tells_of d link clock k) (tells_of z link clock k')) (sym t.1)
      (subst (λ o. Raised file at r (tells_of d link clock k) (tells o (calls_in m) link clock k')) (sym w.opening)
      (raised_early (opening_in d) link clock k k' file at Failed r _ _ _ _ (calls_in d) (calls_in m) w.notes tt (subst (λ n. Says n r) t.0 s) c))
  by_case m Not w t =
      subst (λ z. Raised file at r (tells_of d link clock k) (tells_of z link clock k')) (sym t.1)
      (subst (λ o. Raised file at r (tells_of d link clock k) (tells o (calls_in m) link clock k')) (sym w.opening)
      (raised_early (opening_in d) link clock k k' file at Not r _ _ _ _ (calls_in d) (calls_in m) w.notes tt (subst (λ n. Says n r) t.0 s) c))
