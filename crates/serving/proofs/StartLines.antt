-- What is printed before the lines, and where there are none.
use Rattle.std.proofs.Common.{ℕ, List, [], ◌∷◌, ◌++◌, ◌≡◌, ◌≤◌, ◌<◌, ◌⊎◌, ◌+◌, take, length, Option, Some, None, Ok, Err, Result, inl, inr, sym, ◌∙◌, subst, arith}
use Rattle.std.specs.Io.KnownBytes.{Appends}
use Rattle.node_at.specs.StartedNodes.{IsStarted}
use Rattle.node_at.specs.Starts.{CannotStart}
use Rattle.node_at.specs.State.{State, seen}
use Rattle.node_at.specs.declared.node.Node.{Node}
use Rattle.node_at.specs.declared.fault.StartFault.{StartFault}
use Rattle.node_at.specs.declared.fault.StartFault.TheVariants as faults
use Rattle.node_at.specs.declared.role.Role.{Role}
use Rattle.site_model.specs.Calls.{Attaches}
use Rattle.site_model.specs.Told.{Told}
use Rattle.site_model.specs.declared.site.AttachFailed.{AttachFailed}
use Rattle.site_model.specs.declared.site.AttachFailed.TheVariants as attaching
use Rattle.serving.specs.Lines.{fault_text, up_line}
use Rattle.serving.specs.Notes.{Item}
use Rattle.serving.specs.Runs.{Attends, Comes, Course, IsCut, IsOpen, IsTold, IsUp, IsWanting, Prints, Row, Serviced, all_lines, attach_ended, start_ended}
use Rattle.serving.specs.Sessions.{Cut, Tells}
use Rattle.serving.specs.declared.service_end.Ended.{Ended}
use Rattle.serving.specs.declared.service_end.Ended.TheVariants as endings
use Rattle.std.proofs.lemmas.List.{append-nil, length-append}
use Rattle.std.proofs.Math.Seq.{take-append-add, take-length}
use Rattle.serving.proofs.Texts.{up_some}
use Rattle.serving.proofs.Sessions.{appends_more, appends_nothing, less_over, partly, wholly}

-- why a node wasn't started

pub told : (said text : List ℕ) (ended result : Ended) (x y : Option (List ℕ)) → said ≡ text → result ≡ ended → Appends x y said → Tells text ended result x y
told said text ended result x y e f h = inl (f, wholly said text x y e h)

pub untold : (text : List ℕ) (ended result : Ended) (x : Option (List ℕ)) → result ≡ endings.NoMemory → 0 < length text → Tells text ended result x x
untold text ended result x e some = inr (inl (e, (0, (some, appends_nothing x))))

pub told_partly : (said text : List ℕ) (ended result : Ended) (x y : Option (List ℕ)) → said ≡ text → result ≡ endings.SinkFailed
    → (count : ℕ) × ((count ≤ length said) × Appends x y (take count said)) → Tells text ended result x y
told_partly said text ended result x y e f h = inr (inr (f, partly said text x y e h))

-- a node that is up

module _ {S : Type 0} (told : S → Told) (role : Role) (all : List Item) (n : State) (s u : S) where
  abbrev Attending : List ℕ → Option Ended → Type 0
  Attending = Attends told role all n s u

  abbrev Coming : List ℕ → Option Ended → Type 0
  Coming = Comes told role all n s u

  abbrev up : List ℕ
  up = up_line n.book.incarnation

  abbrev cut : (x y z : Option (List ℕ)) → Appends x y up → IsCut Attending y z → IsCut Coming x z
  cut x y z h c = record {
    text = up ++ c.text;
    ended = c.ended;
    is = Comes.comes c.is;
    count = length up + c.count;
    within = less_over up c.text c.count c.within;
    printed = subst (λ v. Appends x z v) (sym (take-append-add up c.text c.count)) (appends_more x y z up (take c.count c.text) h c.printed);
  }

  behind_up : (ended : Option Ended) (count : ℕ) (text : List ℕ) → IsOpen ended ⊎ (count < length text) → IsOpen ended ⊎ (length up + count < length (up ++ text))
  behind_up ended count text (inl o) = inl o
  behind_up ended count text (inr less) = inr (omega (arith, less, length-append up text))

  wants : (x y z : Option (List ℕ)) → Appends x y up → IsWanting Attending y z → IsWanting Coming x z
  wants x y z h w = record { cut = cut x y z h w.cut; wanting = behind_up w.cut.ended w.cut.count w.cut.text w.wanting }

  whole : (e : Ended) (x y z : Option (List ℕ)) → Appends x y up → IsTold Attending e y z → IsTold Coming e x z
  whole e x y z h c = record { text = up ++ c.text; is = Comes.comes c.is; printed = appends_more x y z up c.text h c.printed }

  comes_by : (e : Ended) (x y z : Option (List ℕ)) → Appends x y up → Prints Attending e y z → Prints Coming e x z
  comes_by endings.Done x y z h p = whole endings.Done x y z h p
  comes_by endings.SinkFailed x y z h p = cut x y z h p
  comes_by endings.DiskFailed x y z h p = whole endings.DiskFailed x y z h p
  comes_by endings.Halted x y z h p = whole endings.Halted x y z h p
  comes_by endings.BadJournal x y z h p = whole endings.BadJournal x y z h p
  comes_by endings.NoJournal x y z h p = whole endings.NoJournal x y z h p
  comes_by endings.ListenerFailed x y z h p = whole endings.ListenerFailed x y z h p
  comes_by endings.NoMemory x y z h p = wants x y z h p
  comes_by endings.Spent x y z h p = whole endings.Spent x y z h p
  comes_by endings.Full x y z h p = whole endings.Full x y z h p
  comes_by endings.Unmet x y z h p = whole endings.Unmet x y z h p

  pub comes : (said : List ℕ) (e : Ended) (x y z : Option (List ℕ)) → said ≡ up → Appends x y said → Prints Attending e y z → Prints Coming e x z
  comes said e x y z f h p = comes_by e x y z (wholly said up x y f h) p

-- nothing was done yet
abbrev begun : {S : Type 0} (told : S → Told) (role : Role) (all : List Item) (n : State) (s : S) → (ended : Option Ended) × Attends told role all n s s [] ended
begun told role [] n s = (Some endings.Done, Attends.whole Row.none)
begun told role (item ∷ rest) n s = (None, Attends.some item rest Row.none)

-- that it is up was printed in part
module _ {S : Type 0} (told : S → Told) (role : Role) (all : List Item) (n : State) (s : S) where
  pub comes_partly : (said : List ℕ) (x y : Option (List ℕ)) → said ≡ up_line n.book.incarnation → (count : ℕ) × ((count ≤ length said) × Appends x y (take count said))
      → IsCut (Comes told role all n s s) x y
  comes_partly said x y e (count, (within, printed)) = record {
    text = up_line n.book.incarnation ++ [];
    ended = (begun told role all n s).0;
    is = Comes.comes (begun told role all n s).1;
    count = count;
    within = subst (λ v. count ≤ length v) (e ∙ sym (append-nil (up_line n.book.incarnation))) within;
    printed = subst (λ v. Appends x y (take count v)) (e ∙ sym (append-nil (up_line n.book.incarnation))) printed;
  }

  pub comes_untold : (x : Option (List ℕ)) → IsWanting (Comes told role all n s s) x x
  comes_untold x = record {
    cut = record {
      text = up_line n.book.incarnation ++ [];
      ended = (begun told role all n s).0;
      is = Comes.comes (begun told role all n s).1;
      count = 0;
      within = omega arith;
      printed = appends_nothing x;
    };
    wanting = inr (up_some n.book.incarnation);
  }

-- the whole

module _ {S : Type 0} (told : S → Told) (v : Serviced) (old new : S) where
  abbrev Courses : List ℕ → Option Ended → Type 0
  Courses = Course told v old new

  pub unopened : (why : AttachFailed) (e : Ended) (x : Option (List ℕ)) → e ≡ attach_ended why → Attaches {T = Unit {0}} v.journal v.listen (Err why) (told old) (told new) → Prints Courses e x x
  unopened attaching.Disk e x f h = subst (λ z. Prints Courses z x x) (sym f) (record { text = []; is = Course.unopened attaching.Disk h; printed = appends_nothing x })
  unopened attaching.Link e x f h = subst (λ z. Prints Courses z x x) (sym f) (record { text = []; is = Course.unopened attaching.Link h; printed = appends_nothing x })

  pub opened : (x : Option (List ℕ)) → Attaches {T = Unit {0}} v.journal v.listen (Ok tt) (told old) (told new) → IsWanting Courses x x
  opened x h = record { cut = record { text = []; ended = None; is = Course.opened h; count = 0; within = omega arith; printed = appends_nothing x }; wanting = inl tt }

  module _ (s : S) (fault : StartFault) (h : Attaches {T = Unit {0}} v.journal v.listen (Ok tt) (told old) (told s)) (c : CannotStart fault v.limit (told s) (told new)) where
    abbrev unstarted_cut : (x y : Option (List ℕ)) → Cut (fault_text fault) x y → IsCut Courses x y
    unstarted_cut x y (count, (within, printed)) = record {
      text = fault_text fault;
      ended = Some (start_ended fault);
      is = Course.unstarted s fault h c;
      count = count;
      within = within;
      printed = printed;
    }

    unstarted_told : (x y : Option (List ℕ)) → Appends x y (fault_text fault) → IsTold Courses (start_ended fault) x y
    unstarted_told x y printed = record { text = fault_text fault; is = Course.unstarted s fault h c; printed = printed }

  whole_as : (s : S) (fault : StartFault) → Attaches {T = Unit {0}} v.journal v.listen (Ok tt) (told old) (told s) → CannotStart fault v.limit (told s) (told new) → (x y : Option (List ℕ))
      → Appends x y (fault_text fault) → Prints Courses (start_ended fault) x y
  whole_as s faults.NoMemory h c x y p = record {
    cut = unstarted_cut s faults.NoMemory h c x y (length {A = ℕ} [], (omega arith, subst (λ z. Appends x y z) (sym (take-length {A = ℕ} [])) p));
    wanting = inl tt;
  }
  whole_as s faults.Disk h c x y p = unstarted_told s faults.Disk h c x y p
  whole_as s (faults.Bad file place) h c x y p = unstarted_told s (faults.Bad file place) h c x y p
  whole_as s faults.NoJournal h c x y p = unstarted_told s faults.NoJournal h c x y p
  whole_as s faults.Spent h c x y p = unstarted_told s faults.Spent h c x y p
  whole_as s faults.Full h c x y p = unstarted_told s faults.Full h c x y p

  pub unstarted : (s : S) (fault : StartFault) (e : Ended) (x y : Option (List ℕ)) → Attaches {T = Unit {0}} v.journal v.listen (Ok tt) (told old) (told s)
      → CannotStart fault v.limit (told s) (told new) → Tells (fault_text fault) (start_ended fault) e x y → Prints Courses e x y
  unstarted s fault e x y h c (inl (f, printed)) = subst (λ z. Prints Courses z x y) (sym f) (whole_as s fault h c x y printed)
  unstarted s fault e x y h c (inr (inl (f, (count, (short, cut))))) =
      subst (λ z. Prints Courses z x y) (sym f) (record { cut = unstarted_cut s fault h c x y (count, (omega (arith, short), cut)); wanting = inr short })
  unstarted s fault e x y h c (inr (inr (f, cut))) = subst (λ z. Prints Courses z x y) (sym f) (unstarted_cut s fault h c x y cut)

  module _ (s : S) (n : State) (role : Role) (same : role ≡ v.role) (is_up : IsUp told v n old s) where
    abbrev came_cut : (x y : Option (List ℕ)) → IsCut (Comes told v.role (all_lines v) n s new) x y → IsCut Courses x y
    came_cut x y c = record { text = c.text; ended = c.ended; is = Course.up is_up c.is; count = c.count; within = c.within; printed = c.printed }

    came_told : (e : Ended) (x y : Option (List ℕ)) → IsTold (Comes told v.role (all_lines v) n s new) e x y → IsTold Courses e x y
    came_told e x y c = record { text = c.text; is = Course.up is_up c.is; printed = c.printed }

    came_as : (e : Ended) (x y : Option (List ℕ)) → Prints (Comes told v.role (all_lines v) n s new) e x y → Prints Courses e x y
    came_as endings.Done x y c = came_told endings.Done x y c
    came_as endings.SinkFailed x y c = came_cut x y c
    came_as endings.DiskFailed x y c = came_told endings.DiskFailed x y c
    came_as endings.Halted x y c = came_told endings.Halted x y c
    came_as endings.BadJournal x y c = came_told endings.BadJournal x y c
    came_as endings.NoJournal x y c = came_told endings.NoJournal x y c
    came_as endings.ListenerFailed x y c = came_told endings.ListenerFailed x y c
    came_as endings.NoMemory x y c = record { cut = came_cut x y c.cut; wanting = c.wanting }
    came_as endings.Spent x y c = came_told endings.Spent x y c
    came_as endings.Full x y c = came_told endings.Full x y c
    came_as endings.Unmet x y c = came_told endings.Unmet x y c

    pub came_up : (e : Ended) (x y : Option (List ℕ)) → Prints (Comes told role (all_lines v) n s new) e x y → Prints Courses e x y
    came_up e x y c = came_as e x y (subst (λ z. Prints (Comes told z (all_lines v) n s new) e x y) same c)

pub came_up_from : {S : Type 0} (told : S → Told) (v : Serviced) (old new opened s : S) (r : Result (Unit {0}) AttachFailed) (x : Unit {0}) (base : List ℕ) (node : Node)
    → Attaches v.journal v.listen r (told old) (told opened) → r ≡ Ok x → base ≡ v.base → IsStarted base v.limit (seen node) (told opened) (told s) × (node.role ≡ v.role)
    → (e : Ended) (before after : Option (List ℕ)) → Prints (Comes told node.role (all_lines v) (seen node) s new) e before after → Prints (Course told v old new) e before after
came_up_from told v old new opened s r x base node h is same (started, role) e before after c =
    came_up told v old new s (seen node) node.role role (record {
      opened = opened;
      attaches = subst (λ z. Attaches v.journal v.listen z (told old) (told opened)) is h;
      starts = subst (λ z. IsStarted z v.limit (seen node) (told opened) (told s)) same started;
    }) e before after c
