-- The files on which a machine comes up that went back to behind some calls of a node's, or that halted in one.
use Rattle.std.specs.Prelude.{ℕ, List, Bool, true, false, [], ◌∷◌, ◌++◌, ◌≡◌, ◌≤◌, ◌⊎◌, Some, None, Option, map, nat_eq}
use Rattle.std.specs.List.{AllByRecursion}
use Rattle.std.proofs.Common.{refl, sym, ap, subst, ◌∙◌, inr, rules}
use Rattle.std.proofs.lemmas.List.{append-nil}
use Rattle.at_base.specs.declared.record.Record.{Record}
use Rattle.decision_log.specs.Folds.{AreRecords}
use Rattle.journal_at.specs.Format.{AreBodies, AreInPlace, AreListed, AreUnmarked, IsBody, Mark, head_of, mark_of, marked, records_of, without}
use Rattle.journal_at.specs.Pairs.{Holds}
use Rattle.journal_at.specs.StandingBodies.{MayBegin, MayFollow}
use Rattle.journal_at.specs.declared.version.Version.TheVariants.{Two}
use Rattle.node_at.specs.State.{State}
use Rattle.node_events.specs.NodeEvents.{records_if}
use Rattle.node_worlds.specs.Acts.{IsUp}
use Rattle.node_worlds.specs.Restarts.{StandsFor}
use Rattle.node_worlds.proofs.Acts.{same_more}
use Rattle.record_bytes.specs.Bytes.{bytes_of}
use Rattle.record_bytes.specs.Versions.{IsRecord, AreBodies as RecordsAreBodies}
use Rattle.site_memory.specs.Devices.{calls_in, opening_in}
use Rattle.site_memory.specs.Disk.{chosen, chosen_files, disk, run}
use Rattle.site_memory.specs.Sites.{told_of}
use Rattle.site_memory.specs.declared.arm.Choice.{Choice}
use Rattle.site_memory.specs.declared.arm.Choice.TheVariants.{Keep}
use Rattle.site_memory.specs.declared.machine.MemSite.{MemSite}
use Rattle.site_memory.specs.declared.range.Which.{Which}
use Rattle.site_memory.specs.declared.range.Which.TheVariants.{First, Second}
use Rattle.site_model.specs.Told.{Elapses, Files, Made, done}
use Rattle.torn_appends.specs.TornAppends.{AppendsTorn, IsSending, append_calls, stands_behind, up_to, with_body}
use Rattle.torn_appends.proofs.DiskRuns.{run_on, sendings}

-- what a machine was opened on stays
pub opening_kept : (s t : MemSite) (P : List Made → Files → Type 0) → Elapses (told_of s) (told_of t) P → opening_in t.device ≡ opening_in s.device
opening_kept s t P e = by (e.keeps [] (opening_in s.device) ((calls_in s.device, refl), (refl, refl)))
  where
    by : (told_of t).past [] (opening_in s.device) → opening_in t.device ≡ opening_in s.device
    by (front, (first, second)) = λ i. record { first = sym first i; second = sym second i }

-- answers and posts before other calls leave the files as they are
module _ (choice : Choice) (opening : Files) (log line rest : List Made) (sends : AllByRecursion IsSending line) where
  skipped : (which : Which) → disk which opening (log ++ (line ++ rest)) ≡ disk which opening (log ++ rest)
  skipped which =
      run_on which _ log (line ++ rest) ∙ run_on which _ line rest ∙ ap (λ d. run which d rest) (sendings which _ line sends)
      ∙ sym (run_on which _ log rest)

  pub skips : chosen_files choice opening (log ++ (line ++ rest)) ≡ chosen_files choice opening (log ++ rest)
  skips = λ i. record { first = chosen choice (skipped First i); second = chosen choice (skipped Second i) }

-- one more body behind those of a file of version 2
without_more : (o : Option Mark) (b : List ℕ) (rest xs : List (List ℕ)) → without o b (rest ++ xs) ≡ without o b rest ++ xs
without_more (Some mark) b rest xs = refl
without_more None b rest xs = refl

pub records_more : (bodies xs : List (List ℕ)) → (head_of bodies).version ≡ Two → records_of (bodies ++ xs) ≡ records_of bodies ++ xs
records_more [] xs e = absurd (search (rules, e))
records_more (b ∷ rest) xs e = without_more (mark_of b) b rest xs

pub head_more : (bodies xs : List (List ℕ)) → (head_of bodies).version ≡ Two → (head_of (bodies ++ xs)).version ≡ Two
head_more [] xs e = absurd (search (rules, e))
head_more (b ∷ rest) xs e = e

pub records_push : (rs : List Record) (xs : List (List ℕ)) (r : Record) → AreRecords Two rs xs → IsRecord Two r (bytes_of r) → AreRecords Two (rs ++ r ∷ []) (xs ++ bytes_of r ∷ [])
records_push [] [] r h k = (k, tt)
records_push [] (x ∷ xs) r h k = absurd h
records_push (s ∷ rs) [] r h k = absurd h
records_push (s ∷ rs) (x ∷ xs) r (h, more) k = (h, records_push rs xs r more k)

sized_push : (bodies : List (List ℕ)) (body : List ℕ) → AreBodies bodies → IsBody body → AreBodies (bodies ++ body ∷ [])
sized_push [] body h k = (k, tt)
sized_push (b ∷ bodies) body (h, l) k = (h, sized_push bodies body l k)

unmarked_push : (bodies : List (List ℕ)) (body : List ℕ) → AreUnmarked bodies → mark_of body ≡ None → AreUnmarked (bodies ++ body ∷ [])
unmarked_push [] body h k = (k, tt)
unmarked_push (b ∷ bodies) body (h, l) k = (h, unmarked_push bodies body l k)

placed_push : (bodies : List (List ℕ)) (body : List ℕ) → AreInPlace bodies → mark_of body ≡ None → AreInPlace (bodies ++ body ∷ [])
placed_push [] body h k = tt
placed_push (b ∷ bodies) body h k = unmarked_push bodies body h k

same_generation : (bodies : List (List ℕ)) (body : List ℕ) → mark_of body ≡ None → (head_of (bodies ++ body ∷ [])).generation ≡ (head_of bodies).generation
same_generation [] body k = ap (λ m. (marked m).generation) k
same_generation (b ∷ bodies) body k = refl

begins_none : (bodies : List (List ℕ)) (body : List ℕ) → (head_of bodies).version ≡ Two → MayBegin bodies body
begins_none [] body e = absurd (search (rules, e))
begins_none (b ∷ bodies) body e = tt

-- a record's body may follow any others of a file of version 2
pub may_follow : (bodies : List (List ℕ)) (body : List ℕ) → AreListed bodies → (head_of bodies).version ≡ Two → IsBody body × (mark_of body ≡ None) → MayFollow bodies body
may_follow bodies body h two (k, l) = record {
  listed = record { sized = sized_push bodies body h.sized k; placed = placed_push bodies body h.placed l };
  generation = same_generation bodies body l;
  begins = begins_none bodies body two;
}

-- the machine of a node that is up, before a call of it
module _ (rs : List Record) (n : State) (s : MemSite) (up : IsUp rs n (told_of s)) where
  -- files that hold the same bodies
  pub stands_alone : (c : Files) → Holds n.journal.live up.holds.bodies c → StandsFor rs c
  stands_alone c h = record {
    version = Two;
    found = up.records;
    stands = record {
      texts = records_of up.holds.bodies;
      is = record {
        live = n.journal.live;
        bodies = up.holds.bodies;
        others = h.beside.others;
        is = record { listed = up.holds.keeps.stands.listed; is = inr h.closed };
        other = h.beside.is;
        newer = h.beside.newer;
        journal = h.journal;
        versions = up.holds.of;
        all = refl;
      };
      are = up.holds.are;
    };
    same = up.same;
  }

  module _ (law : RecordsAreBodies) (r : Record) (formed : IsRecord Two r (bytes_of r)) where
    pub follows : MayFollow up.holds.bodies (bytes_of r)
    follows = may_follow up.holds.bodies (bytes_of r) up.holds.keeps.stands.listed up.holds.of (law Two r (bytes_of r) formed)

    -- or that of a record behind them
    stands_behind_them : (c : Files) → Holds n.journal.live (up.holds.bodies ++ bytes_of r ∷ []) c → StandsFor (rs ++ r ∷ []) c
    stands_behind_them c h = record {
      version = Two;
      found = up.records ++ r ∷ [];
      stands = record {
        texts = records_of (up.holds.bodies ++ bytes_of r ∷ []);
        is = record {
          live = n.journal.live;
          bodies = up.holds.bodies ++ bytes_of r ∷ [];
          others = h.beside.others;
          is = record { listed = follows.listed; is = inr h.closed };
          other = h.beside.is;
          newer = h.beside.newer;
          journal = h.journal;
          versions = head_more up.holds.bodies (bytes_of r ∷ []) up.holds.of;
          all = refl;
        };
        are = subst (AreRecords Two (up.records ++ r ∷ [])) (sym (records_more up.holds.bodies (bytes_of r ∷ []) up.holds.of))
            (records_push up.records (records_of up.holds.bodies) r up.holds.are formed);
      };
      same = same_more up.records rs (r ∷ []) up.same;
    }

    stands_with : (b : Bool) (c : Files) → Holds n.journal.live (with_body b up.holds.bodies (bytes_of r)) c → StandsFor (rs ++ records_if b (r ∷ [])) c
    stands_with true c h = stands_behind_them c h
    stands_with false c h = subst (λ z. StandsFor z c) (sym (append-nil rs)) (stands_alone c h)

    -- behind so many calls of the record's append
    pub stopped_files : AppendsTorn → (line : List Made) → AllByRecursion IsSending line → (k : ℕ) (choice : Choice) → k ≤ 4
        → StandsFor (rs ++ records_if (stands_behind k choice) (r ∷ []))
        (chosen_files choice (opening_in s.device) (calls_in s.device ++ (line ++ up_to k true (append_calls n.journal (bytes_of r)))))
    stopped_files torn line sends k choice most =
        subst (StandsFor (rs ++ records_if (stands_behind k choice) (r ∷ [])))
        (sym (skips choice (opening_in s.device) (calls_in s.device) line (up_to k true (append_calls n.journal (bytes_of r))) sends))
        (stands_with (stands_behind k choice) _ (torn.stopped n.journal up.holds.bodies (bytes_of r) s k choice (record { keeps = up.holds.keeps; follows = follows }) most))

    -- where the gate's write failed, or its sync
    pub halted_files : AppendsTorn → (line : List Made) → AllByRecursion IsSending line → (k : ℕ) → (k ≡ 3) ⊎ (k ≡ 4)
        → StandsFor (rs ++ records_if (nat_eq k 4) (r ∷ []))
        (chosen_files Keep (opening_in s.device) (calls_in s.device ++ (line ++ up_to k false (append_calls n.journal (bytes_of r)))))
    halted_files torn line sends k either =
        subst (StandsFor (rs ++ records_if (nat_eq k 4) (r ∷ [])))
        (sym (skips Keep (opening_in s.device) (calls_in s.device) line (up_to k false (append_calls n.journal (bytes_of r))) sends))
        (stands_with (nat_eq k 4) _ (torn.halted n.journal up.holds.bodies (bytes_of r) s k (record { keeps = up.holds.keeps; follows = follows }) either))

    -- behind all of it, and answers and posts
    pub appended_files : AppendsTorn → (line rest : List Made) → AllByRecursion IsSending line → AllByRecursion IsSending rest → (choice : Choice)
        → StandsFor (rs ++ r ∷ []) (chosen_files choice (opening_in s.device) (calls_in s.device ++ (line ++ (map done (append_calls n.journal (bytes_of r)) ++ rest))))
    appended_files torn line rest sends more choice =
        subst (StandsFor (rs ++ r ∷ []))
        (sym (skips choice (opening_in s.device) (calls_in s.device) line (map done (append_calls n.journal (bytes_of r)) ++ rest) sends))
        (stands_behind_them _ (torn.appended n.journal up.holds.bodies (bytes_of r) s rest choice (record { keeps = up.holds.keeps; follows = follows }) more))

  -- behind answers and posts alone
  pub untouched_files : AppendsTorn → (rest : List Made) → AllByRecursion IsSending rest → (choice : Choice)
      → StandsFor rs (chosen_files choice (opening_in s.device) (calls_in s.device ++ rest))
  untouched_files torn rest sends choice = stands_alone _ (torn.untouched n.journal up.holds.bodies s rest choice up.holds.keeps sends)
