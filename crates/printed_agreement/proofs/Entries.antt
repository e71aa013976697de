-- The lines of a report, each as what it is of: a delivery, a message, or neither.
use Rattle.std.proofs.Common.{ℕ, suc, List, [], ◌∷◌, ◌++◌, ◌≡◌, inl, inr, ◌<◌, ◌≤◌, ◌+◌, ◌-◌, ◌^◌, Bool, true, false, Option, Some, None, drop, length, map, sym, ap, subst, ◌∙◌, arith, refl}
use Rattle.std.specs.Prelude.{codes, decimal, nat_eq, option_map, if◌then◌else◌}
use Rattle.std.specs.List.{AllByRecursion}
use Rattle.std.proofs.lemmas.Bool.{eqb-true}
use Rattle.at_base.specs.IdText.{IsId, id_text}
use Rattle.at_base.specs.Names.{fault_name}
use Rattle.at_base.specs.declared.epr.Epr.{Epr}
use Rattle.at_base.specs.declared.fault.Fault.{Fault}
use Rattle.at_base.specs.declared.fault.Fault.TheVariants as faults
use Rattle.at_base.specs.declared.message.Message.{Message}
use Rattle.at_base.specs.declared.message.Message.TheVariants as messages
use Rattle.at_base.specs.declared.notice.Kind.TheVariants as kinds
use Rattle.at_base.specs.declared.notice.Notice.{Notice}
use Rattle.at_base.specs.declared.notice.Notice.TheVariants as notices
use Rattle.at_base.specs.declared.target.Target.{Target}
use Rattle.at_model.specs.Views.{message_name, path_in, receiver_number}
use Rattle.at_model.specs.World.{Posted, Who, World, example_base, example_hosts, new_nodes, nth, place_of, receiver_of, Hosts, HaveOwnAddresses}
use Rattle.model_laws.specs.Agreement.{IsAccepted, IsIn}
use Rattle.model_laws.specs.ReachedWorlds.{Reached}
use Rattle.model_laws.proofs.Addresses.{place_is}
use Rattle.agreement.proofs.SeatedEntries.{one_of}
use Rattle.printed_agreement.specs.PlainPosts.{IsPlain, IsPlainMessage}
use Rattle.printed_agreement.specs.PrintedAgreement.{Takes, delivery_line, message_line, register_line}
use Rattle.printed_agreement.specs.RegisterAnswers.{Answers}
use Rattle.printed_agreement.specs.ReportLines.{Delivered, Entry, Posts, Quiet, Sound, Stands, line_in}
use Rattle.printed_agreement.proofs.Takings.{accepted}
use Rattle.printed_agreement.proofs.Texts.{Lacks, apart, below_digits, decimal_lacks, no_arrow, number_alone, parted}

-- numbers of messages

pub nth_most : {A : Type 0} (n : ℕ) (xs : List A) (x : A) → nth n xs ≡ Some x → (n ≤ length xs) × IsIn x xs
nth_most n [] x e = absurd cc
nth_most {A} n (y ∷ ys) x e = by_number (λ f. nth_most (n - 1) ys x f) (nat_eq n 1) refl e
  where
    one : Some y ≡ Some x → x ≡ y
    one f = cc

    by_number : (nth (n - 1) ys ≡ Some x → (n - 1 ≤ length ys) × IsIn x ys) → (b : Bool) → nat_eq n 1 ≡ b → (if b then Some y else nth (n - 1) ys) ≡ Some x
        → (n ≤ suc (length ys)) × IsIn x (y ∷ ys)
    by_number rest true f g = let is = eqb-true n 1 f in (omega (arith, is), inl (one g))
    by_number rest false f g = let (most, there) = rest g in (omega (arith, most), inr there)

receiver_small : (count : ℕ) (o : Option Epr) (r : Option ℕ) → r ≡ receiver_of (new_nodes example_base count 1) o → receiver_number r ≤ count
receiver_small count None r e = subst (λ x. receiver_number x ≤ count) (sym e) (omega arith)
receiver_small count (Some to) r e = subst (λ x. receiver_number x ≤ count) (sym e) (by_place (place_of 1 (new_nodes example_base count 1) to.address) refl)
  where
    by_place : (o : Option (ℕ × Target)) → place_of 1 (new_nodes example_base count 1) to.address ≡ o
        → receiver_number (option_map (λ (p : ℕ × Target). p.0) o) ≤ count
    by_place None f = omega arith
    by_place (Some p) f = let at = place_is example_base count 1 to.address p f in omega (arith, at.most)

-- names have no space

fault_lacks : (f : Fault) → Lacks 32 (fault_name f)
fault_lacks faults.InvalidState = refl
fault_lacks faults.InvalidProtocol = refl
fault_lacks faults.InvalidParameters = refl
fault_lacks faults.CannotCreateContext = refl
fault_lacks faults.CannotRegisterParticipant = refl
fault_lacks faults.UnknownTransaction = refl

notice_lacks : (n : Notice) → Lacks 32 (message_name (messages.Notice n))
notice_lacks notices.Prepare = refl
notice_lacks notices.Commit = refl
notice_lacks notices.Rollback = refl
notice_lacks notices.Prepared = refl
notice_lacks notices.ReadOnly = refl
notice_lacks notices.Aborted = refl
notice_lacks notices.Committed = refl

name_lacks : (m : Message) → IsPlainMessage m → Lacks 32 (message_name m)
name_lacks (messages.Create c) h = refl
name_lacks (messages.CreateResponse context) h = refl
name_lacks (messages.Register r) h = refl
name_lacks (messages.RegisterResponse c) h = refl
name_lacks (messages.Notice n) h = notice_lacks n
name_lacks (messages.Work w) h = refl
name_lacks messages.WorkDone h = refl
name_lacks messages.WorkRefused h = refl
name_lacks (messages.Fault name) h = subst (Lacks 32) (sym h.1) (fault_lacks h.0)

-- the parts of a line

spaced : (n : ℕ) → Lacks 32 (decimal n)
spaced n = decimal_lacks 32 n (below_digits 32 (omega arith))

record SameMessage (k j l m : ℕ) (name path other there : List ℕ) : Type 0 where
  number : decimal k ≡ decimal l
  receiver : decimal j ≡ decimal m
  names : name ≡ other
  paths : path ≡ there

message_parts : (k i j l h m : ℕ) (name path other there : List ℕ) → Lacks 32 name → Lacks 32 other → message_line k i j name path ≡ message_line l h m other there → SameMessage k j l m name path other there
message_parts k i j l h m name path other there lacks free e =
    let (number, a) = parted 32 (decimal k) (decimal l) _ _ (spaced k) (spaced l) (ap (drop 4) e) in
    let (sender, b) = parted 62 (decimal i) (decimal h) _ _ (decimal_lacks 62 i no_arrow) (decimal_lacks 62 h no_arrow) a in
    let (receiver, c) = parted 32 (decimal j) (decimal m) _ _ (spaced j) (spaced m) b in
    let (names, paths) = parted 32 name other path there lacks free c in
    record { number = number; receiver = receiver; names = names; paths = paths }

delivery_number : (k n l m : ℕ) (status other : List ℕ) → delivery_line k n status ≡ delivery_line l m other → decimal k ≡ decimal l
delivery_number k n l m status other e = (parted 32 (decimal k) (decimal l) _ _ (spaced k) (spaced l) (ap (drop 8) e)).0

module _ (count : ℕ) (few : count < 2 ^ 64) (distinct : HaveOwnAddresses (example_hosts count)) (w : World) (reached : Reached (example_hosts count) w)
    (plain : AllByRecursion (IsPlain count) w.posted) (short : length w.posted < 2 ^ 64) where
  abbrev hosts : Hosts
  hosts = example_hosts count

  -- a message of a world, that is shown so
  record IsMessage (k j : ℕ) (name path : List ℕ) : Type 0 where
    number : ℕ
    posted : Posted
    found : nth number w.posted ≡ Some posted
    there : IsIn posted w.posted
    is_plain : IsPlain count posted
    small : number < 2 ^ 64
    printed : decimal number ≡ decimal k
    receiver : receiver_number posted.receiver ≡ j
    is_name : message_name posted.content.message ≡ name
    is_path : path_in posted.content.to ≡ path

  is_message : (e : Entry) (k i j : ℕ) (name path : List ℕ) → Stands w e → Lacks 32 name → line_in e ≡ message_line k i j name path → IsMessage k j name path
  is_message (Delivered l n status) k i j name path h lacks e = absurd (apart 0 _ _ e refl)
  is_message (Quiet line) k i j name path h lacks e = absurd (h.message k i j name path e)
  is_message (Posts l p) k i j name path h lacks e =
      let (most, there) = nth_most l w.posted p h in
      let is : IsPlain count p = one_of (IsPlain count) w.posted p plain there in
      let s = message_parts l p.sender (receiver_number p.receiver) k i j (message_name p.content.message) (path_in p.content.to) name path (name_lacks p.content.message is.message) lacks e in
      let near : receiver_number p.receiver < 2 ^ 64 = let m = receiver_small count p.content.to p.receiver is.received in omega (arith, m, few) in
      record {
        number = l;
        posted = p;
        found = h;
        there = there;
        is_plain = is;
        small = omega (arith, most, short);
        printed = s.number;
        receiver = sym (number_alone (receiver_number p.receiver) j near (sym s.receiver));
        is_name = s.names;
        is_path = s.paths;
      }

  asked_in : (es : List Entry) (k i j : ℕ) (name path : List ℕ) → Sound hosts w es → Lacks 32 name → IsIn (message_line k i j name path) (map line_in es) → IsMessage k j name path
  asked_in [] k i j name path h lacks there = absurd there
  asked_in (e ∷ es) k i j name path h lacks (inl f) = is_message e k i j name path h.0 lacks (sym f)
  asked_in (e ∷ es) k i j name path h lacks (inr f) = asked_in es k i j name path h.2 lacks f

  -- a delivery and the line behind it
  record Answered (k j : ℕ) (name path : List ℕ) : Type 0 where
    number : ℕ
    printed : decimal number ≡ decimal k
    answer : ℕ
    is : IsMessage answer j name path
    brings : (c : Epr) → is.posted.content.message ≡ messages.RegisterResponse c → (p : Posted) × (nth number w.posted ≡ Some p) × Answers hosts p c

  pair_is : (e f : Entry) (rest : List Entry) (k n a i j : ℕ) (status name path : List ℕ) → Sound hosts w (e ∷ (f ∷ rest)) → Lacks 32 name → line_in e ≡ delivery_line k n status
      → line_in f ≡ message_line a i j name path → Answered k j name path
  unfolding is_message
  pair_is (Posts l p) f rest k n a i j status name path h lacks one other = absurd (apart 0 _ _ one refl)
  pair_is (Quiet line) f rest k n a i j status name path h lacks one other = absurd (h.0.delivery k n status one)
  pair_is (Delivered l m s) (Delivered o q t) rest k n a i j status name path h lacks one other = absurd (apart 0 _ _ other refl)
  pair_is (Delivered l m s) (Quiet line) rest k n a i j status name path h lacks one other = absurd (h.2.0.message a i j name path other)
  pair_is (Delivered l m s) (Posts o p) rest k n a i j status name path h lacks one other = record {
    number = l;
    printed = delivery_number l m k n s status one;
    answer = a;
    is = is_message (Posts o p) a i j name path h.2.0 lacks other;
    brings = h.1;
  }

  heads_are : (x y : List ℕ) (xs ys : List (List ℕ)) → x ∷ xs ≡ y ∷ ys → (x ≡ y) × (xs ≡ ys)
  heads_are x y xs ys e = (cc, cc)

  answered_in : (es : List Entry) (before after : List (List ℕ)) (k n a i j : ℕ) (status name path : List ℕ) → Sound hosts w es → Lacks 32 name
      → map line_in es ≡ before ++ delivery_line k n status ∷ (message_line a i j name path ∷ after) → Answered k j name path
  answered_in [] [] after k n a i j status name path h lacks e = absurd cc
  answered_in [] (b ∷ bs) after k n a i j status name path h lacks e = absurd cc
  answered_in (x ∷ []) [] after k n a i j status name path h lacks e = absurd cc
  answered_in (x ∷ (y ∷ es)) [] after k n a i j status name path h lacks e =
      let (one, tail) = heads_are _ _ _ _ e in
      let (other, rest) = heads_are _ _ _ _ tail in
      pair_is x y es k n a i j status name path h lacks one other
  answered_in (x ∷ es) (b ∷ bs) after k n a i j status name path h lacks e =
      answered_in es bs after k n a i j status name path h.2 lacks (heads_are _ _ _ _ e).1

  -- who was taken by the lines was accepted
  pub taken : (es : List Entry) (lines : List (List ℕ)) (t x : Who) → lines ≡ map line_in es → Sound hosts w es → Takes lines t x
      → (number : ℕ) × IsAccepted w t (Some (record { number = number; kind = kinds.Durable })) x × (x.node ≤ count) × IsId x.id
  taken es lines t x is h takes =
      let register = asked_in es takes.number takes.sender t.node (codes "Register") (codes "/registration/" ++ id_text t.id) h refl (subst (IsIn (register_line takes.number takes.sender t)) is takes.asked) in
      let answer = answered_in es takes.before takes.after takes.number t.node takes.answer t.node x.node takes.status (codes "RegisterResponse") (codes "/p/d/" ++ id_text x.id) h refl (sym is ∙ takes.delivered) in
      let same : answer.number ≡ register.number = number_alone register.number answer.number register.small (answer.printed ∙ sym register.printed) in
      accepted count few distinct w reached register.posted answer.is.posted t x answer.is.there register.is_plain answer.is.is_plain
      (λ c says. answers register.posted answer.number c (ap (λ n. nth n w.posted) same ∙ register.found) (answer.brings c says))
      register.receiver register.is_path takes.there answer.is.receiver answer.is.is_name answer.is.is_path
    where
      one : (p q : Posted) → Some q ≡ Some p → q ≡ p
      one p q f = cc

      answers : (p : Posted) (n : ℕ) (c : Epr) → nth n w.posted ≡ Some p → (q : Posted) × (nth n w.posted ≡ Some q) × Answers hosts q c → Answers hosts p c
      answers p n c found (q, there, a) = subst (λ y. Answers hosts y c) (one p q (sym there ∙ found)) a
