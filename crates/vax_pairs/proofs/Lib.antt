mod Norming
