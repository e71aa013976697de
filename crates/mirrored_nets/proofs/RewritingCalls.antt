-- Turns at whose end the journal was written anew.
use Rattle.std.specs.Prelude.{ℕ, List, [], ◌∷◌, ◌++◌, ◌≡◌, ◌⊎◌, Some, drop, length, map}
use Rattle.std.proofs.Common.{refl, sym, ap, subst, arith, ◌∙◌, inl, inr, true≢false}
use Rattle.std.proofs.Math.Seq.{drop-append_seam}
use Rattle.std.proofs.lemmas.List.{append-nil}
use Rattle.at_base.specs.declared.event.Event.TheVariants as events
use Rattle.at_base.specs.declared.outs.Out.{Out}
use Rattle.at_base.specs.declared.outs.Out.TheVariants as outs
use Rattle.at_model.specs.Book.{Book}
use Rattle.http_post.specs.OutBytes.{has_reason}
use Rattle.journal_at.specs.StandingBodies.{Makes, lay, raise}
use Rattle.journal_at.specs.declared.journal.Append.TheVariants as appends
use Rattle.node_at.specs.Endings.{Ends, Renews}
use Rattle.node_at.specs.Meanings.{IsFit, Meaning}
use Rattle.node_at.specs.Meanings.Meaning.{Lost, Refused, Steps, Unread}
use Rattle.node_at.specs.Replies.{IsReply, StepsReply}
use Rattle.node_at.specs.State.{State}
use Rattle.node_at.specs.Steps.{status_in}
use Rattle.node_at.specs.TurnText.{IsFirst, Steppings, TurnStep}
use Rattle.node_at.specs.TurnText.Steppings.{asked, unasked}
use Rattle.node_at.specs.Turns.{Turns}
use Rattle.node_at.specs.declared.role.Role.TheVariants.{All}
use Rattle.node_at.specs.declared.shrink.Shrunk.{Shrunk}
use Rattle.node_at.specs.declared.turn.Turned.{Turned}
use Rattle.node_at.specs.declared.turn.Turned.TheVariants as turneds
use Rattle.site_memory.specs.Sites.{told_of}
use Rattle.site_memory.specs.ToldCalls.{LinksHold}
use Rattle.site_memory.specs.declared.machine.MemSite.{MemSite}
use Rattle.site_model.specs.Counts.{Rose}
use Rattle.site_model.specs.Site.{Arming}
use Rattle.site_model.specs.Told.{Made, done}
use Rattle.mirrored_nets.specs.Fates.{anew_of, behind_sent}
use Rattle.mirrored_nets.specs.Took.{IsWhole}
use Rattle.mirrored_nets.specs.AnewCalls.{FailsAnew}
use Rattle.mirrored_nets.proofs.CallRows.{AreOnDisk, IsOnDisk, behind_first, disk_calls}
use Rattle.mirrored_nets.proofs.CutCalls.{all_both}

-- a row of which the last is that
some_last : (call : ℕ) (anew : List Made) → FailsAnew call anew → anew ≡ [] → ⊥
some_last call anew F e = none F.front F.last (sym F.all ∙ e)
  where
    none : (xs : List Made) (x : Made) → xs ++ x ∷ [] ≡ [] → ⊥
    none [] x f = cc
    none (y ∷ ys) x f = cc

-- the append of a record that halts
halting_on_disk : (live end : ℕ) (body : List ℕ) (made : List Made) → Makes appends.Unsure live end body made → AreOnDisk made
halting_on_disk live end body made (rest, is, breaks) =
    subst AreOnDisk (sym is) (all_both IsOnDisk (map done (lay live end body)) rest (refl, (refl, tt)) (disk_calls (raise live end) rest (refl, (refl, tt)) breaks))

-- Behind it no call wrote the journal anew.
pub not_in_append : (lines call : ℕ) (line first made : List Made) (live end : ℕ) (body : List ℕ) → length line ≡ lines → made ≡ line ++ first → Makes appends.Unsure live end body first
    → FailsAnew call (anew_of (drop lines made)) → ⊥
not_in_append lines call line first made live end body long is makes F =
    let behind : drop lines made ≡ first ++ [] = (λ i. drop (sym long i) (is i)) ∙ drop-append_seam line first ∙ sym (append-nil first) in
    some_last call (anew_of (drop lines made)) F (ap anew_of behind ∙ ap behind_sent (behind_first first [] (halting_on_disk live end body first makes)))

-- Whatever is asked is answered with a status.
replied : (os : List Out) → IsReply os → status_in os ≡ 0 → ⊥
replied [] h z = h
replied (outs.Post post ∷ os) h z = h
replied (outs.Answer status reply ∷ os) (inl e, h) z = omega (arith, e, z)
replied (outs.Answer status reply ∷ os) (inr (inl e), h) z = omega (arith, e, z)
replied (outs.Answer status reply ∷ os) (inr (inr e), h) z = omega (arith, e, z)

has_status : StepsReply → (b : Book) (now : ℕ) (meaning : Meaning) (s : TurnStep) (status : ℕ) → IsFit meaning → IsFirst b now meaning s status → status ≡ 0 → ⊥
has_status reply b now (Refused refusal text) s status fit (is, e) z = true≢false (sym fit ∙ ap has_reason (sym e ∙ z))
has_status reply b now (Steps (events.Arrived arrived)) s status fit (is, e) z = replied _ (reply.arrived b arrived now s.landed) (sym e ∙ z)
has_status reply b now (Steps events.Tick) s status fit (is, e) z = replied _ (reply.ticks b now s.landed) (sym e ∙ z)
has_status reply b now (Steps (events.Local l)) s status fit is z = fit.1
has_status reply b now (Steps (events.Due item)) s status fit is z = fit.1
has_status reply b now Lost s status fit is z = is
has_status reply b now Unread s status fit is z = is

lost_without : StepsReply → (b : Book) (now : ℕ) (meaning : Meaning) (steps : List TurnStep) (status : ℕ) → IsFit meaning → Steppings now b [] meaning steps status → status ≡ 0 → meaning ≡ Lost
lost_without reply b now _ steps _ fit (unasked due) z = refl
lost_without reply b now meaning steps status fit (asked first rest is due all) z = absurd (has_status reply b now meaning first status fit is z)

same_served : (a b : ℕ) → turneds.Served a ≡ turneds.Served b → a ≡ b
same_served a b e = cc

none_rose : (old new : ℕ) → Rose old new → new ≡ 0 → ⊥
none_rose old new rose none = omega (arith, rose, none)

-- On a machine that tells what it was told to fail the bytes of a connection are received.
pub first_answered : LinksHold → StepsReply → (first : Turned) (n k : State) (c mid : MemSite) (a : Arming) → (told_of c).counts.arming ≡ Some a → Turns first All n k (told_of c) (told_of mid)
    → first ≡ turneds.Served 0 → ⊥
first_answered hold reply (turneds.Served status) n k c mid a tells steps e =
    let served = steps.serves in
    let lost : served.meaning ≡ Lost = lost_without reply n.book served.now served.meaning served.works.0.steps status served.fit served.works.0.turns (same_served status 0 e) in
    none_rose _ _ (served.lost lost) (hold mid a (served.later.arming ∙ tells)).2
first_answered hold reply turneds.Ticked n k c mid a tells steps e = cc
first_answered hold reply turneds.NoRoom n k c mid a tells steps e = cc
first_answered hold reply turneds.Halted n k c mid a tells steps e = cc
first_answered hold reply turneds.Closed n k c mid a tells steps e = cc
first_answered hold reply turneds.LinkDown n k c mid a tells steps e = cc

-- The steps of a turn that halted went to their end, or halted.
pub whole_or_halted : (first result : Turned) (shrunk : Shrunk) (n m : State) (old new : MemSite) → (first ≡ turneds.Served 0 → ⊥) → result ≡ turneds.Halted → Ends told_of first result shrunk n m old new
    → IsWhole first ⊎ (first ≡ turneds.Halted)
whole_or_halted (turneds.Served status) result shrunk n m old new some halted e = inl (λ none. some (ap (λ k. turneds.Served k) none))
whole_or_halted turneds.Ticked result shrunk n m old new some halted e = inl tt
whole_or_halted turneds.NoRoom result shrunk n m old new some halted e = absurd (let f = sym halted ∙ e.answers in cc)
whole_or_halted turneds.Halted result shrunk n m old new some halted e = inr refl
whole_or_halted turneds.Closed result shrunk n m old new some halted e = absurd (let f = sym halted ∙ e.answers in cc)
whole_or_halted turneds.LinkDown result shrunk n m old new some halted e = absurd (let f = sym halted ∙ e.answers in cc)

-- Where its steps went to their end, the journal was written anew, or not.
pub renewed : (first result : Turned) (shrunk : Shrunk) (n m : State) (old new : MemSite) → IsWhole first → Ends told_of first result shrunk n m old new → Renews told_of first result shrunk n m old new
renewed (turneds.Served status) result shrunk n m old new whole e = e
renewed turneds.Ticked result shrunk n m old new whole e = e
renewed turneds.NoRoom result shrunk n m old new whole e = absurd whole
renewed turneds.Halted result shrunk n m old new whole e = absurd whole
renewed turneds.Closed result shrunk n m old new whole e = absurd whole
renewed turneds.LinkDown result shrunk n m old new whole e = absurd whole

-- Where they halted, nothing more was done.
pub halted_rests : (first result : Turned) (shrunk : Shrunk) (n m : State) (old new : MemSite) → first ≡ turneds.Halted → Ends told_of first result shrunk n m old new → new ≡ old
halted_rests (turneds.Served status) result shrunk n m old new halted e = absurd cc
halted_rests turneds.Ticked result shrunk n m old new halted e = absurd cc
halted_rests turneds.NoRoom result shrunk n m old new halted e = absurd cc
halted_rests turneds.Halted result shrunk n m old new halted e = e.site
halted_rests turneds.Closed result shrunk n m old new halted e = absurd cc
halted_rests turneds.LinkDown result shrunk n m old new halted e = absurd cc
