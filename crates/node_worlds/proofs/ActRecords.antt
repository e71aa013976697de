-- Records of acts, and the bodies that hold them.
use Rattle.std.proofs.Common.{ℕ, List, Bool, Option, Some, None, IfSome, true, false, [], ◌∷◌, ◌++◌, ◌-◌, ◌≡◌, inr, refl, sym, ap, subst, take, length, zero, suc, rules, arith}
use Rattle.at_base.specs.declared.record.Record.{Record}
use Rattle.decision_log.specs.Folds.{AreRecords}
use Rattle.decision_log.specs.KeptRecords.{Known, kept_of}
use Rattle.journal_at.specs.declared.journal.Journal.{Journal}
use Rattle.journal_at.specs.declared.version.Version.TheVariants.{Two}
use Rattle.journal_at.specs.Format.{AreBodies, AreListed, AreUnmarked, Mark, head_of, mark_of, records_of, without}
use Rattle.journal_at.specs.Pairs.{Holds}
use Rattle.journal_at.specs.StandingBodies.{Keeps}
use Rattle.record_bytes.specs.Bytes.{bytes_of}
use Rattle.record_bytes.specs.Versions.{IsRecord}
use Rattle.record_bytes.specs.Versions.{AreBodies as RecordsAreBodies}
use Rattle.site_model.specs.Told.{Told, Files, Call, Elapses, IsPrefix, sent_by}
use Rattle.node_at.specs.Doings.{AreDoings, Doing, deeds_of}
use Rattle.node_at.specs.Moments.{AtMoment, Deed, Moments, landed_of, sent_of}
use Rattle.node_at.specs.Starts.{IsOpen, StandFor}
use Rattle.node_at.specs.State.{State}
use Rattle.node_at.specs.Steps.{bodies_by, if_landed, kept_by, landed_by}
use Rattle.node_at.specs.TurnText.{TurnStep}
use Rattle.node_worlds.specs.Acts.{Act, IsPrefixDone, IsSoFar, IsUp, acts_of, records_in, sent_in}
use Rattle.node_worlds.specs.SentPosts.{recorded, records_by}
use Rattle.node_worlds.proofs.Acts.{same_more}
use Rattle.node_worlds.proofs.Rows.{weaker}

-- each act left these bodies, and sent this
abbrev pub AreActs : List Act → List Deed → Type 0
AreActs [] [] = Unit {0}
AreActs [] (d ∷ ds) = ⊥
AreActs (a ∷ acts) [] = ⊥
AreActs (a ∷ acts) (d ∷ ds) = (AreRecords Two a.records d.landed × (d.sent ≡ a.sent)) × AreActs acts ds

records_join : (rs ss : List Record) (xs ys : List (List ℕ)) → AreRecords Two rs xs → AreRecords Two ss ys → AreRecords Two (rs ++ ss) (xs ++ ys)
records_join [] ss [] ys h k = k
records_join [] ss (x ∷ xs) ys h k = absurd h
records_join (r ∷ rs) ss [] ys h k = absurd h
records_join (r ∷ rs) ss (x ∷ xs) ys h k = (h.0, records_join rs ss xs ys h.1 k)

landed_are : (acts : List Act) (ds : List Deed) → AreActs acts ds → AreRecords Two (records_in acts) (landed_of ds)
landed_are [] [] h = tt
landed_are [] (d ∷ ds) h = absurd h
landed_are (a ∷ acts) [] h = absurd h
landed_are (a ∷ acts) (d ∷ ds) h = records_join a.records (records_in acts) d.landed (landed_of ds) h.0.0 (landed_are acts ds h.1)

sent_are : (acts : List Act) (ds : List Deed) → AreActs acts ds → sent_of ds ≡ sent_in acts
sent_are [] [] h = refl
sent_are [] (d ∷ ds) h = absurd h
sent_are (a ∷ acts) [] h = absurd h
sent_are (a ∷ acts) (d ∷ ds) h = λ i. h.0.1 i ++ sent_are acts ds h.1 i

long_are : (acts : List Act) (ds : List Deed) → AreActs acts ds → length ds ≡ length acts
long_are [] [] h = refl
long_are [] (d ∷ ds) h = absurd h
long_are (a ∷ acts) [] h = absurd h
long_are (a ∷ acts) (d ∷ ds) h = let e = long_are acts ds h.1 in omega (arith, e)

take_are : (k : ℕ) (acts : List Act) (ds : List Deed) → AreActs acts ds → AreActs (take k acts) (take k ds)
take_are zero acts ds h = tt
take_are (suc k) [] [] h = tt
take_are (suc k) [] (d ∷ ds) h = absurd h
take_are (suc k) (a ∷ acts) [] h = absurd h
take_are (suc k) (a ∷ acts) (d ∷ ds) h = (h.0, take_are k acts ds h.1)

-- a record that landed, or none
one_are : (landed : Bool) (entry : Option Record) → IfSome entry (λ r. IsRecord Two r (bytes_of r)) → AreRecords Two (records_by (if_landed landed entry)) (bodies_by (if_landed landed entry))
one_are true None h = tt
one_are true (Some r) h = (h, tt)
one_are false entry h = tt

pub landed_one : (landed : Bool) (entry : Option Record) (xs : List (List ℕ)) → IfSome entry (λ r. IsRecord Two r (bytes_of r)) → xs ≡ landed_by landed entry
    → AreRecords Two (records_by (if_landed landed entry)) xs
landed_one landed entry xs h e = subst (AreRecords Two (records_by (if_landed landed entry))) (sym e) (one_are landed entry h)

pub acts_are : (kept : Known) (ss : List TurnStep) (ds : List Doing) → AreDoings kept ss ds → AreActs (acts_of ss ds) (deeds_of ds)
acts_are kept [] [] h = tt
acts_are kept [] (d ∷ ds) h = absurd h
acts_are kept (s ∷ ss) [] h = absurd h
acts_are kept (s ∷ ss) (d ∷ ds) h =
    ((landed_one s.landed s.entry d.landed h.0.formed h.0.landed, refl), acts_are (kept_by (if_landed s.landed s.entry) kept) ss ds h.1)

pub acts_recorded : (kept : Known) (ss : List TurnStep) (ds : List Doing) → AreDoings kept ss ds → records_in (acts_of ss ds) ≡ recorded ss
acts_recorded kept [] [] h = refl
acts_recorded kept [] (d ∷ ds) h = absurd h
acts_recorded kept (s ∷ ss) [] h = absurd h
acts_recorded kept (s ∷ ss) (d ∷ ds) h = ap (λ z. records_by (if_landed s.landed s.entry) ++ z) (acts_recorded (kept_by (if_landed s.landed s.entry) kept) ss ds h.1)

-- more bodies behind those of a file of version 2
without_more : (o : Option Mark) (b : List ℕ) (rest xs : List (List ℕ)) → without o b (rest ++ xs) ≡ without o b rest ++ xs
without_more (Some mark) b rest xs = refl
without_more None b rest xs = refl

records_more : (bodies xs : List (List ℕ)) → (head_of bodies).version ≡ Two → records_of (bodies ++ xs) ≡ records_of bodies ++ xs
records_more [] xs e = absurd (search (rules, e))
records_more (b ∷ rest) xs e = without_more (mark_of b) b rest xs

head_more : (bodies xs : List (List ℕ)) → (head_of bodies).version ≡ Two → (head_of (bodies ++ xs)).version ≡ Two
head_more [] xs e = absurd (search (rules, e))
head_more (b ∷ rest) xs e = e

module _ (law : RecordsAreBodies) where
  bodies_are : (rs : List Record) (xs : List (List ℕ)) → AreRecords Two rs xs → AreBodies xs × AreUnmarked xs
  bodies_are [] [] h = (tt, tt)
  bodies_are [] (x ∷ xs) h = absurd h
  bodies_are (r ∷ rs) [] h = absurd h
  bodies_are (r ∷ rs) (x ∷ xs) h =
      let k = law Two r x h.0 in
      let more = bodies_are rs xs h.1 in
      ((k.0, more.0), (k.1, more.1))

  bodies_join : (bs xs : List (List ℕ)) → AreBodies bs → AreBodies xs → AreBodies (bs ++ xs)
  bodies_join [] xs h k = k
  bodies_join (b ∷ bs) xs h k = (h.0, bodies_join bs xs h.1 k)

  unmarked_join : (bs xs : List (List ℕ)) → AreUnmarked bs → AreUnmarked xs → AreUnmarked (bs ++ xs)
  unmarked_join [] xs h k = k
  unmarked_join (b ∷ bs) xs h k = (h.0, unmarked_join bs xs h.1 k)

  listed_more : (bodies xs : List (List ℕ)) (rs : List Record) → (head_of bodies).version ≡ Two → AreListed bodies → AreRecords Two rs xs → AreListed (bodies ++ xs)
  listed_more [] xs rs e h are = absurd (search (rules, e))
  listed_more (b ∷ rest) xs rs e h are = record {
    sized = bodies_join (b ∷ rest) xs h.sized (bodies_are rs xs are).0;
    placed = unmarked_join rest xs h.placed (bodies_are rs xs are).1;
  }

  all_are : (qs rs : List Record) (bodies xs : List (List ℕ)) → (head_of bodies).version ≡ Two → AreRecords Two qs (records_of bodies) → AreRecords Two rs xs
      → AreRecords Two (qs ++ rs) (records_of (bodies ++ xs))
  all_are qs rs bodies xs e h are = subst (AreRecords Two (qs ++ rs)) (sym (records_more bodies xs e)) (records_join qs rs (records_of bodies) xs h are)

  open_more : (qs rs : List Record) (xs : List (List ℕ)) (j k : Journal) (old new : Told) → (o : IsOpen Two qs j old) → AreRecords Two rs xs → Keeps k (o.bodies ++ xs) new → k.unsure ≡ false
      → IsOpen Two (qs ++ rs) k new
  open_more qs rs xs j k old new o are keeps sure =
      record { bodies = o.bodies ++ xs; keeps = keeps; of = head_more o.bodies xs o.of; are = all_are qs rs o.bodies xs o.of o.are are; sure = sure }

  stand_for : (qs rs : List Record) (xs : List (List ℕ)) (live : ℕ) (j : Journal) (s : Told) (c : Files) → (o : IsOpen Two qs j s) → AreRecords Two rs xs → Holds live (o.bodies ++ xs) c
      → StandFor Two (qs ++ rs) c
  stand_for qs rs xs live j s c o are h = record {
    texts = records_of (o.bodies ++ xs);
    is = record {
      live = live;
      bodies = o.bodies ++ xs;
      others = h.beside.others;
      is = record { listed = listed_more o.bodies xs rs o.of o.keeps.stands.listed are; is = inr h.closed };
      other = h.beside.is;
      newer = h.beside.newer;
      journal = h.journal;
      versions = head_more o.bodies xs o.of;
      all = refl;
    };
    are = all_are qs rs o.bodies xs o.of o.are are;
  }

  so_far : (rs : List Record) (n : State) (s : Told) (acts : List Act) (ds : List Deed) (live : ℕ) (start sent : List Call) (c : Files) → (u : IsUp rs n s) → AreActs acts ds
      → AtMoment live u.holds.bodies start ds sent c → IsSoFar rs start acts sent c
  so_far rs n s acts ds live start sent c u are m = record {
    k = m.k;
    within = let e = long_are acts ds are in let w = m.within in omega (arith, e, w);
    stands = (
      u.records ++ records_in (take m.k acts),
      stand_for u.records (records_in (take m.k acts)) (landed_of (take m.k ds)) live n.journal s c u.holds (landed_are (take m.k acts) (take m.k ds) (take_are m.k acts ds are)) m.image,
      same_more u.records rs (records_in (take m.k acts)) u.same,
    );
    least = subst (λ z. IsPrefix (start ++ z) sent) (sent_are (take (m.k - 1) acts) (take (m.k - 1) ds) (take_are (m.k - 1) acts ds are)) m.least;
    most = subst (λ z. IsPrefix sent (start ++ z)) (sent_are (take m.k acts) (take m.k ds) (take_are m.k acts ds are)) m.most;
  }

  pub moments_done : (rs : List Record) (n : State) (old new : Told) (acts : List Act) (ds : List Deed) → (u : IsUp rs n old) → AreActs acts ds
      → Moments n.journal.live u.holds.bodies ds old new → Elapses old new (IsPrefixDone rs acts old new)
  moments_done rs n old new acts ds u are h =
      weaker old new _ _ h (λ l c p. (p.0, (p.1.0, p.1.1, so_far rs n old acts ds n.journal.live (sent_by p.1.0) (sent_by l) c u are p.1.2)))

  pub sent_done : (acts : List Act) (ds : List Deed) → AreActs acts ds → sent_of ds ≡ sent_in acts
  sent_done acts ds are = sent_are acts ds are

  pub up_more : (rs : List Record) (n m : State) (old new : Told) (acts : List Act) (ds : List Deed) → (u : IsUp rs n old) → AreActs acts ds
      → Keeps m.journal (u.holds.bodies ++ landed_of ds) new → m.journal.unsure ≡ false → m.halted ≡ false → m.kept ≡ kept_of Two (rs ++ records_in acts) → IsUp (rs ++ records_in acts) m new
  up_more rs n m old new acts ds u are keeps sure runs kept = record {
    runs = runs;
    records = u.records ++ records_in acts;
    holds = open_more u.records (records_in acts) (landed_of ds) n.journal m.journal old new u.holds (landed_are acts ds are) keeps sure;
    same = same_more u.records rs (records_in acts) u.same;
    kept = kept;
  }
