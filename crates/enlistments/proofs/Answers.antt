-- A RegisterResponse names the seat, or the completion seat, at which who gets it was accepted.
use Rattle.std.specs.Prelude.{ℕ, Some, Bool, ◌≡◌, refl}
use Rattle.std.specs.List.{AllByRecursion}
use Rattle.std.proofs.Common.{sym, subst, ap, ◌∙◌}
use Rattle.at_base.specs.declared.epr.Epr.{Epr}
use Rattle.at_base.specs.declared.epr.Reply.TheVariants as replies
use Rattle.at_base.specs.declared.message.Register.{Register}
use Rattle.at_base.specs.declared.event.Arrived.{Arrived}
use Rattle.at_base.specs.declared.event.Event.{Event}
use Rattle.at_base.specs.declared.event.Moment.{Moment}
use Rattle.at_base.specs.declared.outs.Post.{Post}
use Rattle.at_base.specs.declared.target.Target.{Target}
use Rattle.at_base.specs.declared.target.Target.TheVariants as targets
use Rattle.endpoints.specs.Addresses.{endpoint_of}
use Rattle.at_model.specs.Book.{Book, Transaction, find_by, transaction_id}
use Rattle.at_model.specs.Register.{Registration}
use Rattle.at_model.specs.Seats.{seat_target}
use Rattle.at_model.specs.Step.{Outcome, moment_of, plan, step}
use Rattle.at_model.specs.World.{Node, Posted, World, Hosts, HaveOwnAddresses}
use Rattle.model_laws.specs.Agreement.{IsIn}
use Rattle.model_laws.specs.DrawnIds.{with_entry}
use Rattle.model_laws.specs.Growth.{Grows}
use Rattle.model_laws.specs.ReachedWorlds.{Reached, counts}
use Rattle.model_laws.proofs.NodeLives.{put_this}
use Rattle.agreement.specs.StepDeeds.{standing}
use Rattle.enlistments.specs.Registrations.{Enrolls, has_completion, has_seat, refuses, takes_completion, takes_seat}
use Rattle.enlistments.specs.KnownCoordinators.{AnswersName, NamesSeatOf}
use Rattle.enlistments.specs.Leads.{Completes, Enlists, LeadsTo}
use Rattle.enlistments.specs.Moves.{Registered}
use Rattle.enlistments.specs.NoticeOrigins.{IsReply, Responds, names_completion, names_seat}
use Rattle.enlistments.proofs.StepNotices.{steps_tell}
use Rattle.enlistments.proofs.Arrivals.{Stepping, step_ready, then_reached, up_known}
use Rattle.enlistments.proofs.LastingLeads.{Held, completes_on, completion_completes, enlists_on, put_stands, seat_enlists}
use Rattle.enlistments.proofs.Posts.{PostLaw, one_has, posts_have}
use Rattle.enlistments.proofs.Registers.{IsRegisterOf, for_completion, for_kind, register_of}

-- a registration keeps the transaction's id
pub keeps_id : (m : Moment) (a : Arrived) (r : Register) (t : Transaction) (g : Registration) → Enrolls m a r t g → g.transaction.id ≡ t.id
keeps_id m a r t g (takes_seat kind protocol may is) = ap (λ x. x.transaction.id) is
keeps_id m a r t g (takes_completion protocol may is) = ap (λ x. x.transaction.id) is
keeps_id m a r t g (has_seat kind s protocol there k who is) = ap (λ x. x.transaction.id) is
keeps_id m a r t g (has_completion c protocol there who is) = ap (λ x. x.transaction.id) is
keeps_id m a r t g (refuses name is) = ap (λ x. x.transaction.id) is

-- the transaction that took it, in the book behind the step
pub held_after : (hosts : Hosts) (u : World) (n : ℕ) (x : Node) (b : Book) (e : Event) (now : ℕ) (landed : Bool) → Stepping hosts u n x b e now landed
    → (d : Registered b e now (standing landed (plan b e now).entry) (step b e now landed)) → Held hosts (counts u n x b e now landed) n d.gives.transaction
held_after hosts u n x b e now landed s d = record {
  distinct = s.distinct;
  reached = then_reached hosts u n x b e now landed s;
  x = record x { book = Some (step b e now landed).book; journal = with_entry (plan b e now).entry landed x.journal };
  b = (step b e now landed).book;
  found = put_this u.nodes n x (record x { book = Some (step b e now landed).book; journal = with_entry (plan b e now).entry landed x.journal }) s.found;
  up = refl;
  stands = subst (IsIn d.gives.transaction) (sym (ap (λ (o : Outcome). o.book.transactions) d.is))
      (put_stands transaction_id d.gives.transaction.id d.gives.transaction d.old b.transactions
      (ap (λ i. find_by transaction_id i b.transactions) (keeps_id (moment_of b now) d.arrived d.request d.old d.gives d.enrolls) ∙ d.found));
}

-- who gets the answer
same_reply : (a c : Epr) → replies.At a ≡ replies.At c → a ≡ c
same_reply a c e = cc

same_some : (a c : Epr) → Some a ≡ Some c → a ≡ c
same_some a c e = cc

replied_to : (hosts : Hosts) (a : Arrived) (r : Register) (c to : Epr) (p : Post) (m : ℕ) (T : Target) → IsRegisterOf hosts a r → IsReply a c p → p.to ≡ Some to → LeadsTo hosts to m T
    → LeadsTo hosts r.participant m T
replied_to hosts a r c to p m T h k goes leads =
    let same : to ≡ r.participant = same_some to k.to (sym goes ∙ ap (λ (q : Post). q.to) k.is) ∙ same_reply k.to r.participant (sym k.asked ∙ h.reply) in
    subst (λ y. LeadsTo hosts y m T) same leads

response_names : (hosts : Hosts) (u : World) (n : ℕ) (x : Node) (b : Book) (e : Event) (now : ℕ) (landed : Bool) → Stepping hosts u n x b e now landed → (p : Post) (to c : Epr) (m : ℕ)
    (T : Target) → p.to ≡ Some to → LeadsTo hosts to m T → Responds b e now (standing landed (plan b e now).entry) (step b e now landed) c p
    → NamesSeatOf hosts (counts u n x b e now landed) c m T
response_names hosts u n x b e now landed s p to c m T goes leads (names_seat d kind q protocol sits k who is reply) =
    let w : World = counts u n x b e now landed in
    let r : IsRegisterOf hosts d.arrived d.request = register_of hosts u n x b e now landed d.arrived d.request s d.came d.says in
    let l : LeadsTo hosts d.request.participant m T = replied_to hosts d.arrived d.request c to p m T r reply goes leads in
    let (i, own) = for_kind r.own r.id d.request.protocol kind r.registers protocol in
    let at : T ≡ targets.Participant i kind = (r.leads m T l).1 ∙ own in
    let there : LeadsTo hosts q.participant m (targets.Participant i kind) = subst (λ y. LeadsTo hosts y m (targets.Participant i kind)) (sym who) (l ∙ (λ j. Some (m, at j))) in
    let written : endpoint_of (hosts.base_of n) (seat_target d.gives.transaction.id q) ≡ c =
    (λ j. endpoint_of (sym (up_known hosts u s.distinct s.reached n x b s.found s.up).says.base_is j)
    (seat_target (keeps_id (moment_of b now) d.arrived d.request d.old d.gives d.enrolls j) q)) ∙ sym is in
    subst (NamesSeatOf hosts w c m) (sym at)
    (subst (λ y. Enlists hosts w y (record { node = m; id = i }) kind) written
    (seat_enlists hosts w n d.gives.transaction q m i kind (held_after hosts u n x b e now landed s d) sits there))
response_names hosts u n x b e now landed s p to c m T goes leads (names_completion d y protocol there who is reply) =
    let w : World = counts u n x b e now landed in
    let r : IsRegisterOf hosts d.arrived d.request = register_of hosts u n x b e now landed d.arrived d.request s d.came d.says in
    let l : LeadsTo hosts d.request.participant m T = replied_to hosts d.arrived d.request c to p m T r reply goes leads in
    let (i, own) = for_completion r.own r.id d.request.protocol r.registers protocol in
    let at : T ≡ targets.Initiator i = (r.leads m T l).1 ∙ own in
    let led : LeadsTo hosts y.initiator m (targets.Initiator i) = subst (λ z. LeadsTo hosts z m (targets.Initiator i)) (sym who) (l ∙ (λ j. Some (m, at j))) in
    let written : endpoint_of (hosts.base_of n) (targets.Completion d.gives.transaction.id) ≡ c =
    (λ j. endpoint_of (sym (up_known hosts u s.distinct s.reached n x b s.found s.up).says.base_is j)
    (targets.Completion (keeps_id (moment_of b now) d.arrived d.request d.old d.gives d.enrolls j))) ∙ sym is in
    subst (NamesSeatOf hosts w c m) (sym at)
    (subst (λ z. Completes hosts w z (record { node = m; id = i })) written
    (completion_completes hosts w n d.gives.transaction y m i (held_after hosts u n x b e now landed s d) there led))

-- it names it for good
pub names_on : (hosts : Hosts) (u w : World) → Grows u w → (c : Epr) (m : ℕ) (T : Target) → NamesSeatOf hosts u c m T → NamesSeatOf hosts w c m T
names_on hosts u w g c m (targets.Participant i kind) h = enlists_on hosts u w g c (record { node = m; id = i }) kind h
names_on hosts u w g c m (targets.Initiator i) h = completes_on hosts u w g c (record { node = m; id = i }) h
names_on hosts u w g c m targets.Activation h = tt
names_on hosts u w g c m targets.Work h = tt
names_on hosts u w g c m (targets.Registration id) h = tt
names_on hosts u w g c m (targets.Completion id) h = tt
names_on hosts u w g c m (targets.Coordinator id s) h = tt

answering : (hosts : Hosts) → PostLaw hosts
answering hosts = record {
  Of = AnswersName hosts;
  on = λ u w g p h to c m T goes says leads. names_on hosts u w g c m T (h to c m T goes says leads);
  new = λ u n x b e now landed s h p i r to c m T goes says leads.
      response_names hosts u n x b e now landed s p to c m T goes leads (steps_tell.responds b e now landed (step_ready hosts u n x b e now landed s) p c i says);
}

pub answers_name : (hosts : Hosts) (w : World) → HaveOwnAddresses hosts → Reached hosts w → AllByRecursion (AnswersName hosts w) w.posted
unfolding answering
answers_name hosts w distinct reached = posts_have hosts distinct (answering hosts) w reached

pub answer_names : (hosts : Hosts) (w : World) → HaveOwnAddresses hosts → Reached hosts w → (p : Posted) → IsIn p w.posted → AnswersName hosts w p
unfolding answering
answer_names hosts w distinct reached p i = one_has hosts distinct (answering hosts) w reached p i
