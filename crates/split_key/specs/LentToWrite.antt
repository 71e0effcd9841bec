-- What the references of SharesMut and of KeyStateMut lend, and that a call leaves them to the buffers that they lent.
use Rattle.std.specs.Prelude.{◌≡◌}
use Rattle.worksheet.specs.SharedList.{SharedList, shared_list}
use Rattle.split_key.specs.declared.lent_to_write.SharesMut.{SharesMut}
use Rattle.split_key.specs.declared.lent_to_write.KeyStateMut.{KeyStateMut}
use Rattle.split_key.specs.SplitKey.{SplitKey, split_key}
use Rattle.split_key.specs.KeyState.{KeyState, key_state}

-- ---- the shares

abbrev pub s_lent : SharesMut → SharedList
s_lent shares = shared_list shares.s0.now shares.s1.now

abbrev pub z_lent : SharesMut → SharedList
z_lent shares = shared_list shares.z0.now shares.z1.now

abbrev pub SharesStayLent : SharesMut → SharesMut → Type 0
SharesStayLent old new =
    (new.s0.ghost_name ≡ old.s0.ghost_name)
    × (new.s1.ghost_name ≡ old.s1.ghost_name)
    × (new.z0.ghost_name ≡ old.z0.ghost_name)
    × (new.z1.ghost_name ≡ old.z1.ghost_name)

-- ---- the split key, its limit and its count

abbrev pub key_lent : KeyStateMut → SplitKey
key_lent state = split_key state.s0.now state.s1.now state.z0.now state.z1.now state.public.now

abbrev pub state_lent : KeyStateMut → KeyState
state_lent state = key_state (key_lent state) state.limit.now state.count.now

abbrev pub StateStaysLent : KeyStateMut → KeyStateMut → Type 0
StateStaysLent old new =
    (new.s0.ghost_name ≡ old.s0.ghost_name)
    × (new.s1.ghost_name ≡ old.s1.ghost_name)
    × (new.z0.ghost_name ≡ old.z0.ghost_name)
    × (new.z1.ghost_name ≡ old.z1.ghost_name)
    × (new.public.ghost_name ≡ old.public.ghost_name)
    × (new.limit.ghost_name ≡ old.limit.ghost_name)
    × (new.count.ghost_name ≡ old.count.ghost_name)
