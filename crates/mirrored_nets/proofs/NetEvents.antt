-- Hosts of a net, their room and their clocks.
use Rattle.std.specs.Prelude.{ℕ, List, ◌+◌, ◌≡◌, ◌≤◌, Some, None, length, map, suc, zero}
use Rattle.std.proofs.Common.{ap, arith, subst, sym, ◌∙◌}
use Rattle.at_model.specs.World.{World, nth, put_nth}
use Rattle.memory_net.specs.Mails.{mail_of}
use Rattle.memory_net.specs.declared.host.Host.{Host}
use Rattle.site_memory.specs.Devices.{calls_in, opening_in}
use Rattle.site_memory.specs.Tells.{reads}
use Rattle.site_memory.specs.declared.machine.MemSite.{MemSite}
use Rattle.site_model.specs.Told.{Files}
use Rattle.world_laws.proofs.NumberedItems.{nth_none}
use Rattle.mirrored_nets.specs.Goings.{IsSet, NetsMirror}
use Rattle.mirrored_nets.specs.Mirrors.{AllServe, MayServe, Mirrors}
use Rattle.mirrored_nets.specs.Rooms.{HasRoomAt, IsFullAt}
use Rattle.mirrored_nets.specs.Seen.{Seen}
use Rattle.mirrored_nets.specs.Took.{HasRoom, IsFull}
use Rattle.mirrored_nets.proofs.OpenedNets.{serve_put}

none_some : {A : Type 0} (x : A) → None ≡ Some x → ⊥
none_some x e = cc

pub numbered : {A : Type 0} (i : ℕ) (xs : List A) (x : A) → nth i xs ≡ Some x → 1 ≤ i
numbered zero xs x here = absurd (none_some x (sym (nth_none xs) ∙ here))
numbered (suc i) xs x here = omega arith

room_kept : (now : ℕ) (h old : MemSite) → IsSet now h old → HasRoom h → HasRoom old
room_kept now h old set room = record {
  first = subst (λ (f : Files). length f.first + 1060010 ≤ 4294967295) files room.first;
  second = subst (λ (f : Files). length f.second + 1060010 ≤ 4294967295) files room.second;
}
  where
    files : reads (opening_in h.device) (calls_in h.device) ≡ reads (opening_in old.device) (calls_in old.device)
    files = ap (λ o. reads o (calls_in h.device)) (sym set.opening) ∙ ap (reads (opening_in old.device)) (sym set.calls)

-- the machine of a node whose journal has room, when it is set for an event
pub full_there : (i : ℕ) (hosts slice : List Host) (h : Host) → slice ≡ hosts → Some h ≡ nth i slice → IsFull h.site → IsFullAt i hosts
full_there i hosts slice h e here full = (h, ap (nth i) (sym e) ∙ sym here, full)

pub room_set : (i now : ℕ) (inside net : Seen) (h : Host) (site old : MemSite) → inside ≡ net → HasRoomAt i net.hosts → nth i inside.hosts ≡ Some h → site ≡ h.site → IsSet now site old → HasRoom old
room_set i now inside net h site old e room here same set =
    room_kept now site old set (subst HasRoom (sym same) (room h (subst (λ (s : Seen). nth i s.hosts ≡ Some h) e here)))

module _ (mirror : NetsMirror) (old new : Seen) (count : ℕ) (w : World) (few : count ≤ 8) (mirrors : Mirrors count old.hosts old.clocks (map mail_of old.letters) w) where
  pub of_parts : (v : World) (hosts : List Host) (clocks : List ℕ) → new.hosts ≡ hosts → new.clocks ≡ clocks → Mirrors count hosts clocks (map mail_of new.letters) v → Mirrors count new.hosts new.clocks (map mail_of new.letters) v
  of_parts v hosts clocks puts ticks m =
      subst (λ (l : List Host). Mirrors count l new.clocks (map mail_of new.letters) v) (sym puts) (subst (λ (z : List ℕ). Mirrors count hosts z (map mail_of new.letters) v) (sym ticks) m)

  -- with as many nodes as it has hosts
  pub same_few : length old.hosts ≤ 8
  same_few = subst (λ n. n ≤ 8) (sym mirrors.many) few

  pub same_mirrors : Mirrors (length old.hosts) old.hosts old.clocks (map mail_of old.letters) w
  same_mirrors = subst (λ n. Mirrors n old.hosts old.clocks (map mail_of old.letters) w) (sym mirrors.many) mirrors

-- its nodes serve still
pub serve_on : (i : ℕ) (g : Host) (hosts new : List Host) → AllServe hosts → MayServe g → new ≡ put_nth i g hosts → AllServe new
serve_on i g hosts new all here puts = subst AllServe (sym puts) (serve_put i g hosts all here)
