-- Letters among calls.
use Rattle.std.specs.Prelude.{ℕ, List, [], ◌∷◌, ◌++◌, ◌-◌, ◌<◌, ◌≡◌, bytes_eq, if◌then◌else◌, zero, suc}
use Rattle.std.proofs.Common.{refl, sym, ap, arith, ◌∙◌}
use Rattle.std.proofs.lemmas.List.{append_assoc}
use Rattle.site_memory.specs.Entries.{call_of, mades}
use Rattle.site_memory.specs.declared.entry.Entry.{Entry}
use Rattle.site_model.specs.Told.{Call, sent_by, sent_if}
use Rattle.memory_net.specs.Mails.{Mail, example_host, mails_in, number_at}

pub number_step : (k : ℕ) (host : List ℕ) → 0 < k → number_at k host ≡ (if bytes_eq host (example_host k) then k else number_at (k - 1) host)
number_step zero host h = absurd (omega (arith, h))
number_step (suc k) host h = ap (λ j. if bytes_eq host (example_host (suc k)) then suc k else number_at j host) (below k)
  where
    below : (k : ℕ) → k ≡ suc k - 1
    below k = omega arith

pub mails-append : (s c : ℕ) (xs ys : List Call) → mails_in s c (xs ++ ys) ≡ mails_in s c xs ++ mails_in s c ys
mails-append s c [] ys = refl
mails-append s c (Call.Post host port bytes ∷ xs) ys = ap (λ (ms : List Mail). record { sender = s; receiver = number_at c host; bytes = bytes } ∷ ms) (mails-append s c xs ys)
mails-append s c (Call.Write file at bytes ∷ xs) ys = mails-append s c xs ys
mails-append s c (Call.Sync file ∷ xs) ys = mails-append s c xs ys
mails-append s c (Call.Send bytes ∷ xs) ys = mails-append s c xs ys

-- one call more
pub gathered : (s c : ℕ) (front : List Mail) (x : Entry) (rest : List Entry) (more : List Mail) → more ≡ mails_in s c (sent_if x.done (call_of x.deed))
    → (front ++ more) ++ mails_in s c (sent_by (mades rest)) ≡ front ++ mails_in s c (sent_by (mades (x ∷ rest)))
gathered s c front x rest more e =
    append_assoc front more (mails_in s c (sent_by (mades rest)))
    ∙ ap (λ (ms : List Mail). front ++ ms)
    (ap (λ (ms : List Mail). ms ++ mails_in s c (sent_by (mades rest))) e ∙ sym (mails-append s c (sent_if x.done (call_of x.deed)) (sent_by (mades rest))))
