-- The outs of a turn's steps leave by answers and posts, and no step but its first has a record.
use Rattle.std.specs.Prelude.{ℕ, List, [], ◌∷◌, ◌≡◌, Bool, true, false, Option, Some, None}
use Rattle.std.specs.List.{AllByRecursion}
use Rattle.std.proofs.Common.{refl, sym, subst}
use Rattle.addressing.specs.declared.post_to.PostTo.{PostTo}
use Rattle.at_base.specs.declared.outs.Out.{Out}
use Rattle.at_base.specs.declared.outs.Out.TheVariants as outs
use Rattle.at_base.specs.declared.outs.Post.{Post}
use Rattle.at_model.specs.Book.{Book}
use Rattle.at_model.specs.Step.{Outcome, step}
use Rattle.deliveries.proofs.TurnForms.{all_join}
use Rattle.http_post.specs.OutBytes.{has_reason}
use Rattle.node_at.specs.Meanings.{Meaning}
use Rattle.node_at.specs.Meanings.Meaning.{Lost, Refused, Steps, Unread}
use Rattle.node_at.specs.Texts.{AreLeaving, IsAnswerOf, IsCallOf, IsPostOf, Leaving, goes_to}
use Rattle.node_at.specs.Texts.AreLeaving.{leaves, none, stays}
use Rattle.node_at.specs.TurnText.{AreDue, DueSteps, IsFirst, Steppings, TurnStep}
use Rattle.node_at.specs.TurnText.Steppings.{asked, unasked}
use Rattle.site_model.specs.Told.{Call}
use Rattle.mirrored_nets.proofs.ToldFares.{AllAreOuts, AreOuts, HasNone, IsOut}

answer_out : (b : Bool) (status : ℕ) (reply : Option Post) (c : Call) → IsAnswerOf b status reply (Some c) → IsOut c
answer_out true status reply c h = subst IsOut (sym h.is) refl
answer_out false status reply c h = absurd h

post_out : (to : Option PostTo) (p : Post) (c : Call) → IsPostOf to p (Some c) → IsOut c
post_out (Some to) p c h = subst IsOut (sym h.is) refl
post_out None p c h = absurd h

call_out : (o : Out) (c : Call) → IsCallOf o (Some c) → IsOut c
call_out (outs.Post p) c h = post_out (goes_to p.to) p c h
call_out (outs.Answer status reply) c h = answer_out (has_reason status) status reply c h

pub leaving_outs : (os : List Out) (xs : List Leaving) → AreLeaving os xs → AreOuts xs
leaving_outs os xs none = tt
leaving_outs os xs (leaves {os = front} {xs = before} x are call a m) =
    subst AreOuts (sym m) (all_join (λ (y : Leaving). IsOut y.call) before (x ∷ []) (leaving_outs front before are) (call_out x.out x.call call, tt))
leaving_outs os xs (stays {os = front} o are call a) = leaving_outs front xs are

first_outs : (b : Book) (now status : ℕ) (meaning : Meaning) (s : TurnStep) → IsFirst b now meaning s status → AreOuts s.leaving
first_outs b now status (Refused answer text) s (e, f) = subst (λ (z : TurnStep). AreOuts z.leaving) (sym e) (refl, tt)
first_outs b now status (Steps e) s (is, f) = leaving_outs (step b e now s.landed).outs s.leaving is.outcome.leaving
first_outs b now status Lost s h = absurd h
first_outs b now status Unread s h = absurd h

due_outs : (os : List Outcome) (ss : List TurnStep) → AreDue os ss → AllAreOuts ss × AllByRecursion HasNone ss
due_outs [] [] h = (tt, tt)
due_outs [] (s ∷ ss) h = absurd h
due_outs (o ∷ os) [] h = absurd h
due_outs (o ∷ os) (s ∷ ss) (e, f, g, h) = let (are, others) = due_outs os ss h in ((leaving_outs o.outs s.leaving g.leaving, are), (e, others))

-- the steps of what was heard
pub record AskedSteps (now : ℕ) (b : Book) (meaning : Meaning) (steps : List TurnStep) (status : ℕ) : Type 0 where
  pub first : TurnStep
  pub rest : List TurnStep
  pub is : IsFirst b now meaning first status
  pub due : DueSteps now first.behind [] rest
  pub all : steps ≡ first ∷ rest
  pub outs : AllAreOuts (first ∷ rest)
  pub unrecorded : AllByRecursion HasNone rest

pub asked_steps : (now : ℕ) (b : Book) (meaning : Meaning) (steps : List TurnStep) (status : ℕ) → (meaning ≡ Lost → ⊥) → Steppings now b [] meaning steps status → AskedSteps now b meaning steps status
asked_steps now b meaning steps status told (unasked due) = absurd (told refl)
asked_steps now b meaning steps status told (asked first rest is due e) =
    let (are, none_recorded) = due_outs due.done rest due.are in
    record { first = first; rest = rest; is = is; due = due; all = e; outs = (first_outs b now status meaning first is, are); unrecorded = none_recorded }
