-- A session, line by line.
use Rattle.std.proofs.Common.{ℕ, suc, List, [], ◌∷◌, ◌++◌, ◌≡◌, ◌≤◌, ◌<◌, ◌+◌, ◌-◌, ◌*◌, ◌^◌, ◌==◌, ◌&&◌, ◌||◌, ◌⊎◌, take, length, nat_le, Bool, true, false, if◌then◌else◌, Option, Some, None, inl, inr, ap, sym, ◌∙◌, subst, arith, refl}
use Rattle.std.specs.Prelude.{replicate, vec_capacity}
use Rattle.std.proofs.lemmas.Bool.{ne_eqb}
use Rattle.std.proofs.lemmas.Bool.Decides.{nat_tests}
use Rattle.std.specs.Io.KnownBytes.{Appends}
use Rattle.std.proofs.lemmas.List.{append-nil, append_assoc, length-append}
use Rattle.std.proofs.Math.Seq.{take-append-add, take-length}
use Rattle.at_base.specs.Numbers.{Numbers}
use Rattle.at_base.specs.declared.event.Local.{Local}
use Rattle.at_base.specs.declared.outs.Effect.{Effect}
use Rattle.completion_at.specs.declared.requests.Refusal.{Refusal}
use Rattle.node_at.specs.Endings.{TakesTurn}
use Rattle.node_at.specs.Locals.{Asked}
use Rattle.node_at.specs.State.{State}
use Rattle.node_at.specs.Steps.{Keeping}
use Rattle.node_at.specs.declared.local.Locally.{Locally}
use Rattle.node_at.specs.declared.local.Locally.TheVariants as locally
use Rattle.node_at.specs.declared.role.Role.{Role}
use Rattle.node_at.specs.declared.shrink.Shrunk.{Shrunk}
use Rattle.node_at.specs.declared.turn.Turned.{Turned}
use Rattle.schedules.specs.declared.initiator_line.InitiatorLine.{InitiatorLine}
use Rattle.schedules.specs.declared.initiator_line.InitiatorLine.TheVariants as lines
use Rattle.shown_pages.specs.Quiet.{Quiet}
use Rattle.site_model.specs.Counts.{Rose}
use Rattle.site_model.specs.Told.{Told}
use Rattle.serving.specs.Notes.{Item, Notes, adds, brings, lacks, left, meets, no_notes, noted, waited_behind}
use Rattle.serving.specs.Requests.{done_by, ended_by, printed, request_of}
use Rattle.serving.specs.Runs.{Attends, Does, IsCut, IsTold, IsWanting, Prints, Row, all_items}
use Rattle.serving.specs.Sessions.{Cut, Finishes, Goes, HasRoom, Idles, Short, Takes, Whole, notes_of}
use Rattle.serving.specs.declared.answer.Answer.{Answer}
use Rattle.serving.specs.declared.answer.Answer.TheVariants as answers
use Rattle.serving.specs.declared.service_end.Ended.{Ended}
use Rattle.serving.specs.declared.session.Session.{Session}
use Rattle.serving.specs.declared.service_end.Ended.TheVariants as endings
use Rattle.serving.specs.declared.request.Request.{Request}
use Rattle.serving.specs.declared.request.Request.TheVariants as requests

pub asks : {S : Type 0} (told : S → Told) (role : Role) (r : Request) (l : Local) (a : Locally) (n m : State) (s t : S) → r ≡ requests.Local l → Asked a n m l (told s) (told t)
    → ((why : Refusal) → a ≡ locally.Refused why → t ≡ s) → Keeping (told s) (told t) → Does told role r (answers.Local a) n m s t
asks told role r l a n m s t e h same k = subst (λ x. Does told role x (answers.Local a) n m s t) (sym e) (record { asked = h; nothing = same }, k)

pub turns : {S : Type 0} (told : S → Told) (role : Role) (r : Request) (turned : Turned) (shrunk : Shrunk) (n m : State) (s shown t : S) → r ≡ requests.Wait → Quiet (told s) (told shown)
    → TakesTurn told turned role shrunk n m shown t → Does told role r (answers.Turn turned) n m s t
turns told role r turned shrunk n m s shown t e q h = subst (λ x. Does told role x (answers.Turn turned) n m s t) (sym e) (shown, q, (shrunk, h))

pub stale : {S : Type 0} (told : S → Told) (role : Role) (r : Request) (n m : State) (s t : S) → r ≡ requests.Stale → m ≡ n → t ≡ s → Does told role r answers.Stale n m s t
stale told role r n m s t e f g = subst (λ x. Does told role x answers.Stale n m s t) (sym e) (f, g)

-- Appends

pub appends_nothing : (x : Option (List ℕ)) → Appends x x []
appends_nothing None = tt
appends_nothing (Some xs) = sym (append-nil xs)

pub appends_more : (x y z : Option (List ℕ)) (a b : List ℕ) → Appends x y a → Appends y z b → Appends x z (a ++ b)
appends_more None y z a b h k = tt
appends_more (Some xs) None z a b h k = absurd h
appends_more (Some xs) (Some ys) None a b h k = absurd k
appends_more (Some xs) (Some ys) (Some zs) a b h k = k ∙ (ap (λ v. v ++ b) h ∙ append_assoc xs a b)

pub nothing : (text : List ℕ) (x : Option (List ℕ)) → Cut text x x
nothing text x = (0, (omega arith, appends_nothing x))

pub all_of_it : (text : List ℕ) (x y : Option (List ℕ)) → Appends x y text → Cut text x y
all_of_it text x y h = (length text, (omega arith, subst (λ v. Appends x y v) (sym (take-length text)) h))

pub partly : (said text : List ℕ) (x y : Option (List ℕ)) → said ≡ text → (count : ℕ) × ((count ≤ length said) × Appends x y (take count said)) → Cut text x y
partly said text x y e h = subst (λ v. Cut v x y) e h

pub wholly : (said text : List ℕ) (x y : Option (List ℕ)) → said ≡ text → Appends x y said → Appends x y text
wholly said text x y e h = subst (λ v. Appends x y v) e h

-- nothing of a text that isn't empty
pub unprinted : (met : Bool) (answer : Answer) (text : List ℕ) (x : Option (List ℕ)) → 0 < length text → Finishes (Some endings.NoMemory) met answer text x x
unprinted met answer text x some = inr (0, (some, appends_nothing x))

-- what becomes of an answer whose text was printed
finishes : (e : Option Ended) (met : Bool) (answer : Answer) (text : List ℕ) (x y : Option (List ℕ)) → ended_by met answer ≡ e → Appends x y text → Finishes e met answer text x y
finishes None met answer text x y e h = (e, h)
finishes (Some endings.Done) met answer text x y e h = (e, h)
finishes (Some endings.SinkFailed) met answer text x y e h = all_of_it text x y h
finishes (Some endings.DiskFailed) met answer text x y e h = (e, h)
finishes (Some endings.Halted) met answer text x y e h = (e, h)
finishes (Some endings.BadJournal) met answer text x y e h = (e, h)
finishes (Some endings.NoJournal) met answer text x y e h = (e, h)
finishes (Some endings.ListenerFailed) met answer text x y e h = (e, h)
finishes (Some endings.NoMemory) met answer text x y e h = inl (e, h)
finishes (Some endings.Spent) met answer text x y e h = (e, h)
finishes (Some endings.Full) met answer text x y e h = (e, h)
finishes (Some endings.Unmet) met answer text x y e h = (e, h)

pub finished : (e : Option Ended) (now met : Bool) (answer : Answer) (said text : List ℕ) (x y : Option (List ℕ)) → e ≡ ended_by now answer → now ≡ met → said ≡ text → Appends x y said
    → Finishes e met answer text x y
finished e now met answer said text x y f same g h =
    finishes e met answer text x y (ap (λ b. ended_by b answer) (sym same) ∙ sym f) (wholly said text x y g h)

-- what is noted

pub notes_are : (notes : Notes) (made : List (Option Numbers)) (unmet : List ℕ) (met : Bool) (waited : ℕ) (item : Item) (answer : Answer) (es : List Effect)
    → made ≡ notes.made ++ adds item answer → unmet ≡ notes.unmet ++ lacks item answer → met ≡ (notes.met && meets answer es)
    → waited ≡ waited_behind notes.waited item answer → ◌≡◌ {A = Notes} (record { made = made; unmet = unmet; met = met; waited = waited }) (noted notes item answer es)
notes_are notes made unmet met waited item answer es a b c d = λ i. record { made = a i; unmet = b i; met = c i; waited = d i }

pub first_notes : (s : Session) → (s.made.items ≡ []) × (s.unmet.items ≡ []) × (s.met ≡ true) × (s.waited ≡ 0) → notes_of s ≡ no_notes
first_notes s (a, b, c, d) = λ i. record { made = a i; unmet = b i; met = c i; waited = d i }

-- A `wait` begins anew, or has served one connection more.
pub waits : (waited : ℕ) (item : Item) (answer : Answer) → waited < 2 ^ 64 - 1
    → (waited_behind waited item answer ≡ 0) ⊎ ((waited_behind waited item answer ≡ waited + 1) × (waited_behind waited item answer < 2 ^ 64 - 1))
waits waited None answer less = inl refl
waits waited (Some (lines.Begin coordinator ms)) answer less = inl refl
waits waited (Some (lines.Interpose activity coordinator)) answer less = inl refl
waits waited (Some (lines.Work activity service kind vote key value)) answer less = inl refl
waits waited (Some (lines.Commit activity anyway)) answer less = inl refl
waits waited (Some (lines.Rollback activity)) answer less = inl refl
waits waited (Some lines.Wait) answer less = by (brings answer) (nat_le (2 ^ 64 - 1) (waited + 1)) refl
  where
    by : (a b : Bool) → nat_le (2 ^ 64 - 1) (waited + 1) ≡ b
        → ((if a || b then 0 else waited + 1) ≡ 0) ⊎ (((if a || b then 0 else waited + 1) ≡ waited + 1) × ((if a || b then 0 else waited + 1) < 2 ^ 64 - 1))
    by true b e = inl refl
    by false true e = inl refl
    by false false e = inr (refl, grind (arith, nat_tests, e))

-- room stays where nothing is added
pub room_kept : (item : Item) (old new : Session) → notes_of new ≡ notes_of old → (vec_capacity new.made ≡ vec_capacity old.made) × (vec_capacity new.unmet ≡ vec_capacity old.unmet)
    → HasRoom item old.made.items (vec_capacity old.made) old.unmet.items (vec_capacity old.unmet)
    → HasRoom item new.made.items (vec_capacity new.made) new.unmet.items (vec_capacity new.unmet)
room_kept item old new e (f, g) h =
    subst (λ v. HasRoom item new.made.items (vec_capacity new.made) new.unmet.items v) (sym g)
    (subst (λ v. HasRoom item new.made.items v new.unmet.items (vec_capacity old.unmet)) (sym f)
    (subst (λ (v : Notes). HasRoom item v.made (vec_capacity old.made) v.unmet (vec_capacity old.unmet)) (sym e) h))

module _ {S : Type 0} (told : S → Told) (role : Role) (item : Item) where
  pub takes : (result : Option Ended) (answer : Answer) (r : Request) (notes later notes' : Notes) (made : List (Option Numbers)) (unmet : List ℕ) (n m k : State) (s t : S)
      (x y : Option (List ℕ)) → r ≡ request_of notes item → Does told role r answer n m s t → (made ≡ notes.made) × (unmet ≡ notes.unmet)
      → notes' ≡ record { made = made; unmet = unmet; met = notes.met; waited = notes.waited } → k ≡ m
      → Finishes result (noted notes' item answer m.effects).met answer (printed answer m.effects) x y
      → (result ≡ None → later ≡ noted notes' item answer m.effects) → Takes told role item result notes later n k s t x y
  takes result answer r notes later notes' made unmet n m k s t x y e does (same, others) f g finishes more =
      let back : notes' ≡ notes = f ∙ (λ i. record { made = same i; unmet = others i; met = notes.met; waited = notes.waited }) in
      subst (λ (z : State). Takes told role item result notes later n z s t x y) (sym g)
      (inl (record {
        answer = answer;
        does = subst (λ z. Does told role z answer n m s t) e does;
        finishes = subst (λ (z : Notes). Finishes result (noted z item answer m.effects).met answer (printed answer m.effects) x y) back finishes;
        grown = λ h. more h ∙ ap (λ z. noted z item answer m.effects) back;
      }))

  pub idles : (result : Option Ended) (notes later : Notes) (n m : State) (s t : S) (x y : Option (List ℕ))
      → result ≡ Some endings.NoMemory → m ≡ n → t ≡ s → y ≡ x → Takes told role item result notes later n m s t x y
  idles result notes later n m s t x y e f g h = inr (record { ended = e; node = f; site = g; sink = h })

-- How far a session has come, and what was printed so far.
pub record SoFar {S : Type 0} (told : S → Told) (role : Role) (all rest : List Item) (notes : Notes) (n m : State) (s t : S) (before after : Option (List ℕ)) : Type 0 where
  pub text : List ℕ
  pub row : Row told role all n s rest notes text m t
  pub printed : Appends before after text

pub less_over : (a b : List ℕ) (n : ℕ) → n ≤ length b → length a + n ≤ length (a ++ b)
less_over a b n h = let e = length-append a b in omega (arith, h, e)

module _ {S : Type 0} (told : S → Told) (role : Role) (all : List Item) (n : State) (s : S) where
  pub so_far_begin : (notes : Notes) (x : Option (List ℕ)) → notes ≡ no_notes → SoFar told role all all notes n n s s x x
  so_far_begin notes x e = subst (λ z. SoFar told role all all z n n s s x x) (sym e) (record { text = []; row = Row.none; printed = appends_nothing x })

  module _ (item : Item) (rest : List Item) (notes later : Notes) (m k : State) (t u : S) (x y z : Option (List ℕ)) where
    goes : SoFar told role all (item ∷ rest) notes n m s t x y → Goes told role item None notes later m k t u y z → SoFar told role all (left later item rest) later n k s u x z
    goes h g =
        subst (λ (v : Notes). SoFar told role all (left v item rest) v n k s u x z) (sym (g.grown refl))
        (record {
          text = h.text ++ printed g.answer k.effects;
          row = Row.more item g.answer k u h.row g.does g.finishes.0;
          printed = appends_more x y z h.text (printed g.answer k.effects) h.printed g.finishes.1;
        })

    none_idles : Idles None m k t u y z → ⊥
    none_idles h = let e = h.ended in absurd cc

    pub goes_on : (other : Role) → other ≡ role → (result : Option Ended) → result ≡ None → Takes told other item result notes later m k t u y z → Goes told role item None notes later m k t u y z
    goes_on other same result e took = on (subst (λ r. Takes told r item None notes later m k t u y z) same (subst (λ v. Takes told other item v notes later m k t u y z) e took))
      where
        on : Takes told role item None notes later m k t u y z → Goes told role item None notes later m k t u y z
        on (inl g) = g
        on (inr i) = absurd (none_idles i)

    pub so_far_more : (other : Role) → other ≡ role → (result : Option Ended) → result ≡ None → SoFar told role all (item ∷ rest) notes n m s t x y
        → Takes told other item result notes later m k t u y z → SoFar told role all (left later item rest) later n k s u x z
    so_far_more other same result e h took = goes h (goes_on other same result e took)

    -- a `wait` begins anew, or has served one connection more
    pub waits_on : (other : Role) → other ≡ role → (result : Option Ended) → result ≡ None → Takes told other item result notes later m k t u y z → notes.waited < 2 ^ 64 - 1
        → (later.waited ≡ 0) ⊎ ((later.waited ≡ notes.waited + 1) × (later.waited < 2 ^ 64 - 1))
    waits_on other same result e took less =
        let g = goes_on other same result e took in
        subst (λ v. (v ≡ 0) ⊎ ((v ≡ notes.waited + 1) × (v < 2 ^ 64 - 1))) (sym (ap (λ (v : Notes). v.waited) (g.grown refl))) (waits notes.waited item g.answer less)

  module _ (u : S) where
    abbrev Ends : List ℕ → Option Ended → Type 0
    Ends = Attends told role all n s u

    -- behind some of them there are more, or none
    went : (rest : List Item) (notes : Notes) (text : List ℕ) (m : State) → Row told role all n s rest notes text m u → (ended : Option Ended) × Ends text ended
    went [] notes text m row = (Some (done_by notes.met), Attends.whole row)
    went (next ∷ more) notes text m row = (None, Attends.some next more row)

    module _ (item : Item) (rest : List Item) (notes later : Notes) (m k : State) (t : S) (x y z : Option (List ℕ)) where
      idle : SoFar told role all (item ∷ rest) notes n m s t x y → (result : Option Ended) → Idles result m k t u y z → Prints Ends endings.NoMemory x z
      idle h result i =
          subst (λ v. Prints (Attends told role all n s v) endings.NoMemory x z) (sym i.site)
          (subst (λ v. Prints (Attends told role all n s t) endings.NoMemory x v) (sym i.sink)
          (record {
            cut = record {
              text = h.text;
              ended = None;
              is = Attends.some item rest h.row;
              count = length h.text;
              within = omega arith;
              printed = subst (λ v. Appends x y v) (sym (take-length h.text)) h.printed;
            };
            wanting = inl tt;
          }))

      ends : (h : SoFar told role all (item ∷ rest) notes n m s t x y) → (answer : Answer) (e : Ended) → Does told role (request_of notes item) answer m k t u
          → ended_by (noted notes item answer k.effects).met answer ≡ Some e → Ends (h.text ++ printed answer k.effects) (Some e)
      ends h answer e d is = Attends.last item rest answer k h.row d is

      -- how far it is with that answer
      reached : (h : SoFar told role all (item ∷ rest) notes n m s t x y) → (answer : Answer) (o : Option Ended) → Does told role (request_of notes item) answer m k t u
          → ended_by (noted notes item answer k.effects).met answer ≡ o → (ended : Option Ended) × Ends (h.text ++ printed answer k.effects) ended
      reached h answer None d is =
          went (left (noted notes item answer k.effects) item rest) (noted notes item answer k.effects) (h.text ++ printed answer k.effects) k (Row.more item answer k u h.row d is)
      reached h answer (Some e) d is = (Some e, ends h answer e d is)

      abbrev cut_at : (h : SoFar told role all (item ∷ rest) notes n m s t x y) → (answer : Answer) (ended : Option Ended) → Ends (h.text ++ printed answer k.effects) ended
          → Cut (printed answer k.effects) y z → IsCut Ends x z
      cut_at h answer ended is (count, (within, cut)) = record {
        text = h.text ++ printed answer k.effects;
        ended = ended;
        is = is;
        count = length h.text + count;
        within = less_over h.text (printed answer k.effects) count within;
        printed = subst (λ v. Appends x z v) (sym (take-append-add h.text (printed answer k.effects) count)) (appends_more x y z h.text (take count (printed answer k.effects)) h.printed cut);
      }

      abbrev cuts : SoFar told role all (item ∷ rest) notes n m s t x y → (answer : Answer) → Does told role (request_of notes item) answer m k t u → Cut (printed answer k.effects) y z → IsCut Ends x z
      cuts h answer d cut = let r = reached h answer (ended_by (noted notes item answer k.effects).met answer) d refl in cut_at h answer r.0 r.1 cut

      tells : SoFar told role all (item ∷ rest) notes n m s t x y → (answer : Answer) (e : Ended) → Does told role (request_of notes item) answer m k t u
          → (ended_by (noted notes item answer k.effects).met answer ≡ Some e) × Appends y z (printed answer k.effects) → IsTold Ends e x z
      tells h answer e d (is, all_printed) = record {
        text = h.text ++ printed answer k.effects;
        is = ends h answer e d is;
        printed = appends_more x y z h.text (printed answer k.effects) h.printed all_printed;
      }

      wants : SoFar told role all (item ∷ rest) notes n m s t x y → (answer : Answer) → Does told role (request_of notes item) answer m k t u
          → Whole (noted notes item answer k.effects).met answer (Some endings.NoMemory) (printed answer k.effects) y z ⊎ Short (printed answer k.effects) y z → IsWanting Ends x z
      wants h answer d (inl (is, all_printed)) = record {
        cut = cut_at h answer (Some endings.NoMemory) (ends h answer endings.NoMemory d is) (all_of_it (printed answer k.effects) y z all_printed);
        wanting = inl tt;
      }
      wants h answer d (inr (count, (short, cut))) = record {
        cut = cuts h answer d (count, (omega (arith, short), cut));
        wanting = inr (omega (arith, short, length-append h.text (printed answer k.effects)));
      }

      stops : SoFar told role all (item ∷ rest) notes n m s t x y → (e : Ended) (answer : Answer) → Does told role (request_of notes item) answer m k t u
          → Finishes (Some e) (noted notes item answer k.effects).met answer (printed answer k.effects) y z → Prints Ends e x z
      stops h endings.Done answer d f = tells h answer endings.Done d f
      stops h endings.SinkFailed answer d f = cuts h answer d f
      stops h endings.DiskFailed answer d f = tells h answer endings.DiskFailed d f
      stops h endings.Halted answer d f = tells h answer endings.Halted d f
      stops h endings.BadJournal answer d f = tells h answer endings.BadJournal d f
      stops h endings.NoJournal answer d f = tells h answer endings.NoJournal d f
      stops h endings.ListenerFailed answer d f = tells h answer endings.ListenerFailed d f
      stops h endings.NoMemory answer d f = wants h answer d f
      stops h endings.Spent answer d f = tells h answer endings.Spent d f
      stops h endings.Full answer d f = tells h answer endings.Full d f
      stops h endings.Unmet answer d f = tells h answer endings.Unmet d f

      idled : SoFar told role all (item ∷ rest) notes n m s t x y → (e : Ended) → Idles (Some e) m k t u y z → Prints Ends e x z
      idled h e i = subst (λ v. Prints Ends v x z) (sym (some_same e endings.NoMemory i.ended)) (idle h (Some e) i)
        where
          some_same : (a b : Ended) → Some a ≡ Some b → a ≡ b
          some_same a b h = cc

      pub so_far_stop : (other : Role) → other ≡ role → (result : Option Ended) (e : Ended) → result ≡ Some e → SoFar told role all (item ∷ rest) notes n m s t x y
          → Takes told other item result notes later m k t u y z → Prints Ends e x z
      so_far_stop other same result e is h took = stop (subst (λ r. Takes told r item (Some e) notes later m k t u y z) same (subst (λ v. Takes told other item v notes later m k t u y z) is took))
        where
          stop : Takes told role item (Some e) notes later m k t u y z → Prints Ends e x z
          stop (inl g) = stops h e g.answer g.does g.finishes
          stop (inr i) = idled h e i

    pub so_far_end : (notes : Notes) (m : State) (e : Ended) (x y : Option (List ℕ)) → e ≡ done_by notes.met → SoFar told role all [] notes n m s u x y → Prints Ends e x y
    so_far_end notes m e x y same h = subst (λ v. Prints Ends v x y) (sym same) (by notes.met refl)
      where
        by : (b : Bool) → notes.met ≡ b → Prints Ends (done_by b) x y
        by true is = record { text = h.text; is = subst (λ b. Attends told role all n s u h.text (Some (done_by b))) is (Attends.whole h.row); printed = h.printed }
        by false is = record { text = h.text; is = subst (λ b. Attends told role all n s u h.text (Some (done_by b))) is (Attends.whole h.row); printed = h.printed }

-- One line was done, and is through or not.
pub left_as : (waited : ℕ) (line : InitiatorLine) (rest behind over : List InitiatorLine) (turns : ℕ) → rest ≡ line ∷ behind → over ≡ (if waited == 0 then behind else rest)
    → (if waited == 0 then all_items behind turns else Some line ∷ all_items behind turns) ≡ all_items over turns
left_as waited line rest behind over turns e f = by (waited == 0) f
  where
    by : (b : Bool) → over ≡ (if b then behind else rest) → (if b then all_items behind turns else Some line ∷ all_items behind turns) ≡ all_items over turns
    by true g = ap (λ ls. all_items ls turns) (sym g)
    by false g = ap (λ ls. all_items ls turns) (sym (g ∙ e))

-- how much is left to be done of these lines, at most
abbrev pub measure : List InitiatorLine → ℕ → ℕ
measure rest waited = length rest * 18446744073709551616 - waited

pub shrinks : (waited later : ℕ) (line : InitiatorLine) (rest behind over : List InitiatorLine) → rest ≡ line ∷ behind → over ≡ (if later == 0 then behind else rest) → waited < 2 ^ 64 - 1
    → (later ≡ 0) ⊎ ((later ≡ waited + 1) × (later < 2 ^ 64 - 1)) → measure over later < measure rest waited
shrinks waited later line rest behind over e f less (inl is) =
    let longer : length rest ≡ length behind + 1 = ap length e ∙ omega arith in
    let same : over ≡ behind = subst (λ v. over ≡ (if v == 0 then behind else rest)) is f in
    let counted : length over ≡ length behind = ap length same in
    omega (arith, longer, counted, is, less)
shrinks waited later line rest behind over e f less (inr (is, fits)) =
    let longer : length rest ≡ length behind + 1 = ap length e ∙ omega arith in
    let same : over ≡ rest = subst (λ v. over ≡ (if v == 0 then behind else rest)) is f ∙ again (waited + 1) (omega arith) in
    let counted : length over ≡ length rest = ap length same in
    omega (arith, longer, counted, is, less, fits)
  where
    again : (n : ℕ) → (n ≡ 0 → ⊥) → (if n == 0 then behind else rest) ≡ rest
    again n more = rw (ne_eqb n 0 more) refl

pub waited_within : (waited later : ℕ) → (later ≡ 0) ⊎ ((later ≡ waited + 1) × (later < 2 ^ 64 - 1)) → later < 2 ^ 64 - 1
waited_within waited later (inl is) = omega (arith, is)
waited_within waited later (inr (is, fits)) = fits

-- a line of those that are left
module _ {S : Type 0} (told : S → Told) (role : Role) (all : List Item) (n : State) (s : S) (turns : ℕ) (line : InitiatorLine) (rest behind : List InitiatorLine)
    (notes later : Notes) (m k : State) (t u : S) (x y z : Option (List ℕ)) where
  abbrev first_left : rest ≡ line ∷ behind → SoFar told role all (all_items rest turns) notes n m s t x y → SoFar told role all (Some line ∷ all_items behind turns) notes n m s t x y
  first_left e h = subst (λ v. SoFar told role all (all_items v turns) notes n m s t x y) e h

  pub so_far_line : (over : List InitiatorLine) (other : Role) → other ≡ role → (result : Option Ended) → result ≡ None → rest ≡ line ∷ behind
      → over ≡ (if later.waited == 0 then behind else rest) → SoFar told role all (all_items rest turns) notes n m s t x y
      → Takes told other (Some line) result notes later m k t u y z → SoFar told role all (all_items over turns) later n k s u x z
  so_far_line over other same result is e f h took =
      subst (λ v. SoFar told role all v later n k s u x z) (left_as later.waited line rest behind over turns e f)
      (so_far_more told role all n s (Some line) (all_items behind turns) notes later m k t u x y z other same result is (first_left e h) took)

  pub so_far_stop_line : (other : Role) → other ≡ role → (result : Option Ended) (ended : Ended) → result ≡ Some ended → rest ≡ line ∷ behind
      → SoFar told role all (all_items rest turns) notes n m s t x y → Takes told other (Some line) result notes later m k t u y z → Prints (Attends told role all n s u) ended x z
  so_far_stop_line other same result ended is e h took =
      so_far_stop told role all n s u (Some line) (all_items behind turns) notes later m k t x y z other same result ended is (first_left e h) took

  pub line_waits : (other : Role) → other ≡ role → (result : Option Ended) → result ≡ None → Takes told other (Some line) result notes later m k t u y z → notes.waited < 2 ^ 64 - 1
      → (later.waited ≡ 0) ⊎ ((later.waited ≡ notes.waited + 1) × (later.waited < 2 ^ 64 - 1))
  line_waits other same result is took less = waits_on told role all n s (Some line) (all_items behind turns) notes later m k t u x y z other same result is took less

-- turn after turn
next_turn : (turn turns : ℕ) → turn < turns → ◌≡◌ {A = List Item} (replicate (turns - turn) None) (None ∷ replicate (turns - (turn + 1)) None)
next_turn turn turns less =
    let more : turns - turn ≡ suc (turns - (turn + 1)) = omega (arith, less) in
    ap (λ k. replicate k None) more

module _ {S : Type 0} (told : S → Told) (role : Role) (all : List Item) (n : State) (s : S) where
  pub so_far_lines : (turns : ℕ) (rest : List InitiatorLine) (notes : Notes) (m : State) (t : S) (x y : Option (List ℕ)) → rest ≡ []
      → SoFar told role all (all_items rest turns) notes n m s t x y → SoFar told role all (replicate (turns - 0) None) notes n m s t x y
  so_far_lines turns rest notes m t x y e h =
      let whole : turns ≡ turns - 0 = omega arith in
      subst (λ k. SoFar told role all (replicate k None) notes n m s t x y) whole (subst (λ ls. SoFar told role all (all_items ls turns) notes n m s t x y) e h)

  pub so_far_done : (turn turns : ℕ) (notes : Notes) (m : State) (t : S) (x y : Option (List ℕ)) → (turn < turns → ⊥)
      → SoFar told role all (replicate (turns - turn) None) notes n m s t x y → SoFar told role all [] notes n m s t x y
  so_far_done turn turns notes m t x y past h =
      let none : turns - turn ≡ 0 = omega (arith, past) in
      subst (λ k. SoFar told role all (replicate k None) notes n m s t x y) none h

  module _ (turn turns : ℕ) (less : turn < turns) (notes later : Notes) (m k : State) (t u : S) (x y z : Option (List ℕ)) where
    abbrev behind : List Item
    behind = replicate (turns - (turn + 1)) None

    abbrev turns_left : List Item
    turns_left = replicate (turns - turn) None

    pub so_far_turn : (other : Role) → other ≡ role → (result : Option Ended) → result ≡ None → SoFar told role all turns_left notes n m s t x y
        → Takes told other None result notes later m k t u y z → SoFar told role all behind later n k s u x z
    so_far_turn other same result e h took =
        let g = goes_on told role all n s None behind notes later m k t u x y z other same result e took in
        let through : later.waited ≡ 0 = ap (λ (v : Notes). v.waited) (g.grown refl) in
        subst (λ w. SoFar told role all (if w == 0 then behind else None ∷ behind) later n k s u x z) through
        (so_far_more told role all n s None behind notes later m k t u x y z other same result e
        (subst (λ v. SoFar told role all v notes n m s t x y) (next_turn turn turns less) h) took)

    pub turn_waits : (other : Role) → other ≡ role → (result : Option Ended) → result ≡ None → Takes told other None result notes later m k t u y z → later.waited < 2 ^ 64 - 1
    turn_waits other same result e took =
        let g = goes_on told role all n s None behind notes later m k t u x y z other same result e took in
        let through : later.waited ≡ 0 = ap (λ (v : Notes). v.waited) (g.grown refl) in
        omega (arith, through)

    pub so_far_stop_turn : (other : Role) → other ≡ role → (result : Option Ended) (e : Ended) → result ≡ Some e → SoFar told role all turns_left notes n m s t x y
        → Takes told other None result notes later m k t u y z → Prints (Attends told role all n s u) e x z
    so_far_stop_turn other same result e is h took =
        so_far_stop told role all n s u None behind notes later m k t x y z other same result e is
        (subst (λ v. SoFar told role all v notes n m s t x y) (next_turn turn turns less) h) took

-- a count that rose later rose
pub rose_later : (a b c : ℕ) → a ≤ b → Rose b c → Rose a c
rose_later a b c h r = omega (arith, h, r)

pub failed_later : (result : Option Ended) (e : Ended) (a b c : ℕ) → a ≤ b → result ≡ Some e → (result ≡ Some endings.SinkFailed → Rose b c) → e ≡ endings.SinkFailed → Rose a c
failed_later result e a b c h is cause same = rose_later a b c h (cause (is ∙ ap Some same))

pub done_sinks : (met : Bool) (e : Ended) → e ≡ done_by met → e ≡ endings.SinkFailed → ⊥
done_sinks true e f g = absurd (differ (sym f ∙ g))
  where
    differ : endings.Done ≡ endings.SinkFailed → ⊥
    differ h = cc
done_sinks false e f g = absurd (differ (sym f ∙ g))
  where
    differ : endings.Unmet ≡ endings.SinkFailed → ⊥
    differ h = cc
