-- What stands of a step whose record may stand or not, on the files as they read.
use Rattle.std.specs.Prelude.{ℕ, List, [], ◌∷◌, ◌++◌, ◌+◌, ◌≡◌, ◌⊎◌, Bool, true, false, Some, drop, length, nat_eq, suc}
use Rattle.std.specs.List.{AllByRecursion}
use Rattle.std.proofs.Common.{refl, sym, ap, subst, ◌∙◌, inl, inr, arith}
use Rattle.at_base.specs.declared.outs.Post.{Post}
use Rattle.at_base.specs.declared.record.Record.{Record}
use Rattle.journal_at.specs.declared.journal.Journal.{Journal}
use Rattle.journal_at.specs.declared.version.Version.TheVariants.{Two}
use Rattle.mirrored_nets.proofs.CallRows.{AreOnDisk, AreSendings}
use Rattle.mirrored_nets.proofs.CutTurns.{CutAt}
use Rattle.mirrored_nets.proofs.HaltedGates.{FailsAt, IsHalt}
use Rattle.mirrored_nets.proofs.CutCalls.{silent, touch_none}
use Rattle.mirrored_nets.proofs.LeftFiles.{halted_files}
use Rattle.node_at.specs.State.{State}
use Rattle.node_at.specs.Steps.{if_landed}
use Rattle.node_at.specs.TurnText.{TurnStep}
use Rattle.node_events.specs.NodeEvents.{front_by, records_if}
use Rattle.node_worlds.specs.Acts.{IsUp}
use Rattle.node_worlds.specs.Crashes.{IsNoPost}
use Rattle.node_worlds.specs.Restarts.{StandsFor}
use Rattle.node_worlds.specs.SentPosts.{recorded, records_by}
use Rattle.node_worlds.proofs.Rows.{sent_append}
use Rattle.record_bytes.specs.Bytes.{bytes_of}
use Rattle.record_bytes.specs.Versions.{IsRecord, AreBodies as RecordsAreBodies}
use Rattle.site_memory.specs.Devices.{calls_in, opening_in}
use Rattle.site_memory.specs.Disk.{chosen_files}
use Rattle.site_memory.specs.Sites.{told_of}
use Rattle.site_memory.specs.declared.arm.Choice.TheVariants.{Keep}
use Rattle.site_memory.specs.declared.machine.MemSite.{MemSite}
use Rattle.site_model.specs.Told.{Made, sent_by}
use Rattle.torn_appends.specs.TornAppends.{AppendsTorn, append_calls, up_to}

pub drop_behind : {A : Type 0} (xs ys : List A) (k : ℕ) → drop (length xs + k) (xs ++ ys) ≡ drop k ys
drop_behind [] ys k = let e : 0 + k ≡ k = omega arith in ap (λ z. drop z ys) e
drop_behind (x ∷ xs) ys k = let e : suc (length xs) + k ≡ suc (length xs + k) = omega arith in ap (λ z. drop z (x ∷ (xs ++ ys))) e ∙ drop_behind xs ys k

-- the call that failed, behind the line
pub fails_behind : (lines : ℕ) (line first made : List Made) (file : ℕ) (stands : Bool) → length line ≡ lines → made ≡ line ++ first → FailsAt lines made file stands → FailsAt 0 first file stands
fails_behind lines line first made file stands long is fails = by fails
  where
    behind : (k : ℕ) → drop (lines + k) made ≡ drop k first
    behind k = (λ i. drop (sym long i + k) (is i)) ∙ drop_behind line first k

    by : FailsAt lines made file stands → FailsAt 0 first file stands
    by (inl (place, bytes, e, f)) = inl (place, bytes, sym (behind 2) ∙ e, f)
    by (inr (e, f)) = inr (sym (behind 3) ∙ e, f)

gate_on_disk : (j : Journal) (body : List ℕ) (k : ℕ) → (k ≡ 3) ⊎ (k ≡ 4) → AreOnDisk (up_to k false (append_calls j body))
gate_on_disk j body k (inl e) = subst (λ z. AreOnDisk (up_to z false (append_calls j body))) (sym e) (refl, (refl, (refl, tt)))
gate_on_disk j body k (inr e) = subst (λ z. AreOnDisk (up_to z false (append_calls j body))) (sym e) (refl, (refl, (refl, (refl, tt))))

pub stands_so : (k : ℕ) (stands : Bool) → ((k ≡ 3) × (stands ≡ false)) ⊎ ((k ≡ 4) × (stands ≡ true)) → nat_eq k 4 ≡ stands
stands_so k stands (inl (e, f)) = ap (λ z. nat_eq z 4) e ∙ sym f
stands_so k stands (inr (e, f)) = ap (λ z. nat_eq z 4) e ∙ sym f

pub front_recorded : (stands : Bool) (step : TurnStep) (r : Record) → step.entry ≡ Some r → step.landed ≡ true → recorded (front_by stands step) ≡ records_if stands (r ∷ [])
front_recorded true step r entry landed = λ i. records_by (if_landed (landed i) (entry i)) ++ []
front_recorded false step r entry landed = refl

module _ (law : RecordsAreBodies) (torn : AppendsTorn) (rs : List Record) (n : State) (s : MemSite) (up : IsUp rs n (told_of s)) (made line first : List Made)
    (sends : AreSendings line) (no_posts : AllByRecursion IsNoPost (sent_by line)) (is : made ≡ line ++ first) (step : TurnStep) (r : Record) (entry : step.entry ≡ Some r) (landed : step.landed ≡ true)
    (formed : IsRecord Two r (bytes_of r)) (stands : Bool) (K : IsHalt n.journal (bytes_of r) stands first) (Leads : List TurnStep → List Post → Type 0) where
  files_so : StandsFor (rs ++ recorded (front_by stands step)) (chosen_files Keep (opening_in s.device) (calls_in s.device ++ made))
  files_so =
      subst (λ z. StandsFor (rs ++ z) (chosen_files Keep (opening_in s.device) (calls_in s.device ++ made)))
      (ap (λ b. records_if b (r ∷ [])) (stands_so K.k stands K.stands_is) ∙ sym (front_recorded stands step r entry landed))
      (subst (λ z. StandsFor (rs ++ records_if (nat_eq K.k 4) (r ∷ [])) (chosen_files Keep (opening_in s.device) (calls_in s.device ++ z)))
      (ap (λ z. line ++ z) (sym K.first_is) ∙ sym is)
      (halted_files rs n s up law r formed torn line (touch_none line sends) K.k K.either))

  quiet : sent_by made ≡ sent_by line ++ []
  quiet =
      ap sent_by is ∙ sent_append line first
      ∙ ap (λ z. sent_by line ++ z) (ap sent_by K.first_is ∙ silent (up_to K.k false (append_calls n.journal (bytes_of r))) (gate_on_disk n.journal (bytes_of r) K.k K.either))

  pub halt_cut : Leads (front_by stands step) [] → CutAt rs (step ∷ []) (chosen_files Keep (opening_in s.device) (calls_in s.device ++ made)) made Leads
  halt_cut leads = by stands files_so leads
    where
      by : (b : Bool) → StandsFor (rs ++ recorded (front_by b step)) (chosen_files Keep (opening_in s.device) (calls_in s.device ++ made)) → Leads (front_by b step) []
          → CutAt rs (step ∷ []) (chosen_files Keep (opening_in s.device) (calls_in s.device ++ made)) made Leads
      by true files so = record {
        front = step ∷ [];
        rest = [];
        of = refl;
        doings = record { landed = []; first = []; made = []; lost = 0; refused = 0 } ∷ [];
        posts = [];
        sent = ([], [], record { went = []; some = tt; calls = refl; posts = refl }, refl, refl);
        stands = files;
        said = sent_by line;
        no_posts = no_posts;
        calls = quiet;
        leads = so;
      }
      by false files so = record {
        front = [];
        rest = step ∷ [];
        of = refl;
        doings = [];
        posts = [];
        sent = refl;
        stands = files;
        said = sent_by line;
        no_posts = no_posts;
        calls = quiet;
        leads = so;
      }
