mod Promised
